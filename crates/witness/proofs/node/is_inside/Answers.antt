use Rattle.std.proofs.Common.{slice_get}
use Rattle.machine.specs.Standing.{program_run}
use Rattle.witness.proofs.NodeLemmas.{inside_some, inside_none}
use Rattle.witness.proofs.node.is_inside.Goals as goal

pub returns-in-Some : goal.returns-in-Some
returns-in-Some c = λ q stands. inside_some (program_run c.args.machine.now) (slice_get q.threads c.args.thread) c.inside.result c.in-Some.inside (c.inside.ensures q stands) c.in-Some.is

pub returns-in-None : goal.returns-in-None
returns-in-None c = λ q stands. inside_none (program_run c.args.machine.now) (slice_get q.threads c.args.thread) c.inside.result (c.inside.ensures q stands) c.in-None.is
