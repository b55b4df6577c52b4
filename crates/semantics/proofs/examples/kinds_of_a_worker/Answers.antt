use Rattle.std.proofs.Common.{ap, filter, map, ◌==◌}
use Rattle.core_program.specs.Examples.{counter}
use Rattle.semantics.specs.Examples.{one_worker}
use Rattle.semantics.proofs.PlainRuns.{entries_is}
use Rattle.semantics.proofs.examples.kinds_of_a_worker.Goals as goal

pub returns : goal.returns
returns c = ap (λ es. map (λ e. e.kind) (filter (λ e. e.thread == 1) es)) (entries_is counter one_worker)
