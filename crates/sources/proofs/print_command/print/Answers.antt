use Rattle.sources.proofs.SourceRows.{program_refused}
use Rattle.sources.proofs.print_command.print.Goals as goal

pub returns-in-Err : goal.returns-in-Err
returns-in-Err c = program_refused c.args.bytes.now c.in-Err.end c.refusal_of.result c.in-Err.ensures c.refusal_of.ensures
