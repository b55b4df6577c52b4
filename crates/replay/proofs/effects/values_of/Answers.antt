use Rattle.core_program.specs.Views.{program_of}
use Rattle.replay.proofs.Arguments.{values_in_order}
use Rattle.replay.proofs.effects.values_of.Goals as goal

pub returns : goal.returns
returns c = values_in_order c.object_values.result (program_of c.args.program.now) c.args.class c.args.arguments.now c.object_values.ensures
