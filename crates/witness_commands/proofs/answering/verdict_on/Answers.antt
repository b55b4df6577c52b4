-- Why nothing is told.
use Rattle.core_program.specs.Views.{program_of}
use Rattle.witness_commands.proofs.answering.verdict_on.Goals as goal

pub refuse_end-requires : goal.refuse_end-requires
refuse_end-requires c = (program_of c.args.source.now.program, c.args.schedule.now, c.in-Err.ensures)

pub returns : goal.returns
returns c = c.refuse_end.ensures (program_of c.args.source.now.program) c.args.schedule.now c.in-Err.ensures
