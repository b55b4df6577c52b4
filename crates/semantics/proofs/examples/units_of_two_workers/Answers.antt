use Rattle.std.proofs.Common.{ap, map}
use Rattle.core_program.specs.Examples.{counter}
use Rattle.semantics.specs.Units.{Entry, units, in_order, commit_place, schedule_of}
use Rattle.semantics.specs.Examples.{interleaved, one_after_the_other}
use Rattle.semantics.proofs.PlainRuns.{run_is, entries_is}
use Rattle.semantics.proofs.KeptLemmas.{kept_uninterrupted, uninterrupted_kept}
use Rattle.std.proofs.Common.{◌≡◌, ◌∙◌, refl, sym, subst, true, false}
use Rattle.std.specs.Prelude.{IsSome}
use Rattle.semantics.specs.Units.{are_kept}
use Rattle.std.proofs.Common.{List}
use Rattle.semantics.proofs.examples.units_of_two_workers.Goals as goal

pub returns-clause-places : goal.returns-clause-places
returns-clause-places c = ap (λ (es : List Entry). map (λ u. map (λ e. e.place) u) (in_order (units es))) (entries_is counter interleaved)

pub returns-clause-commit_places : goal.returns-clause-commit_places
returns-clause-commit_places c = ap (λ es. map commit_place (in_order (units es))) (entries_is counter interleaved)

pub returns-clause-written : goal.returns-clause-written
returns-clause-written c = ap (λ es. schedule_of (in_order (units es))) (entries_is counter interleaved)

pub returns-clause-runs : goal.returns-clause-runs
returns-clause-runs c = run_is counter interleaved

pub returns-clause-runs_written : goal.returns-clause-runs_written
returns-clause-runs_written c = run_is counter one_after_the_other

pub returns-clause-uninterrupted : goal.returns-clause-uninterrupted
returns-clause-uninterrupted c = kept_uninterrupted counter one_after_the_other (subst IsSome (sym (run_is counter one_after_the_other)) refl) (ap are_kept (entries_is counter one_after_the_other))

pub returns-clause-interrupted : goal.returns-clause-interrupted
returns-clause-interrupted c un =
    let test : false ≡ true = sym (ap are_kept (entries_is counter interleaved)) ∙ uninterrupted_kept counter interleaved un in
    absurd cc
