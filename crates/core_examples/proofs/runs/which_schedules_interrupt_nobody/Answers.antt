use Rattle.std.proofs.Common.{refl, sym, ap, subst}
use Rattle.std.specs.Prelude.{IsSome, replicate}
use Rattle.core_program.specs.Examples.{counter, nested}
use Rattle.semantics.specs.Units.{are_kept}
use Rattle.semantics.specs.Examples.{one_worker}
use Rattle.semantics.proofs.PlainRuns.{run_is, entries_is}
use Rattle.semantics.proofs.KeptLemmas.{kept_uninterrupted}
use Rattle.core_examples.proofs.runs.which_schedules_interrupt_nobody.Goals as goal

pub returns-clause-one_worker : goal.returns-clause-one_worker
returns-clause-one_worker c = kept_uninterrupted counter one_worker (subst IsSome (sym (run_is counter one_worker)) refl) (ap are_kept (entries_is counter one_worker))

pub returns-clause-cut_off : goal.returns-clause-cut_off
returns-clause-cut_off c = kept_uninterrupted nested (replicate 3 0) (subst IsSome (sym (run_is nested (replicate 3 0))) refl) (ap are_kept (entries_is nested (replicate 3 0)))
