use Rattle.std.proofs.Common.{◌≡◌, refl, sym, subst}
use Rattle.std.specs.Prelude.{Option, Some, None, IsSome}
use Rattle.core_program.specs.Examples.{counter}
use Rattle.state.specs.States.{State, initial}
use Rattle.semantics.specs.Run.{IsRearrangement}
use Rattle.semantics.specs.Examples.{interleaved, one_after_the_other, counted_to_two}
use Rattle.witness.specs.Walks.{walk}
use Rattle.witness.proofs.WalkLemmas.{walk_uninterrupted}
use Rattle.witness.proofs.examples.overlapping_calls_are_kept.Goals as goal

none_unless : (o : Option State) → ((q : State) → o ≡ Some q → ⊥) → o ≡ None
none_unless None never = refl
none_unless (Some q) never = absurd (never q refl)

pub returns-clause-interrupted : goal.returns-clause-interrupted
returns-clause-interrupted c =
    none_unless (walk counter (initial counter) None interleaved) (λ q walks. c.units_of_two_workers.ensures.interrupted (walk_uninterrupted counter interleaved q walks))

pub returns-clause-kept : goal.returns-clause-kept
returns-clause-kept c =
    let u = c.units_of_two_workers.ensures in (
      one_after_the_other,
      record {
        rearranges = subst (IsRearrangement interleaved) u.written (c.unit_laws.ensures.rearrangement counter interleaved (subst IsSome (sym u.runs) refl));
        uninterrupted = u.uninterrupted;
        last = counted_to_two;
        runs = u.runs_written;
        like = refl;
      },
    )
