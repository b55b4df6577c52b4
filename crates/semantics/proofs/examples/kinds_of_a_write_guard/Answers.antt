use Rattle.std.proofs.Common.{ap, map}
use Rattle.std.specs.Prelude.{replicate}
use Rattle.core_program.specs.Examples.{reads_unlocked}
use Rattle.semantics.proofs.PlainRuns.{entries_is}
use Rattle.semantics.proofs.examples.kinds_of_a_write_guard.Goals as goal

pub returns : goal.returns
returns c = ap (λ es. map (λ e. e.kind) es) (entries_is reads_unlocked (replicate 14 0))
