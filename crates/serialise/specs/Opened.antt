-- What comes of a schedule: it is put in its open order, or it stops.
use Rattle.std.specs.Prelude.{◌≡◌, ◌⊎◌, ℕ, List, Some, None, Result, IfOk, IfErr, MatchResult}
use Rattle.core_program.specs.Core.{Program}
use Rattle.state.specs.States.{State, initial}
use Rattle.semantics.specs.Run.{run, open_thread}
use Rattle.semantics.specs.Units.{written_order}
use Rattle.machine.specs.declared.machine.Stopped.{Stopped}
use Rattle.machine.specs.Standing.{IsStopped}
use Rattle.serialise.specs.declared.run_end.RunEnd.{RunEnd}
use Rattle.serialise.specs.declared.run_end.RunEnd.TheVariants as ends
use Rattle.serialise.specs.NoRun.{IsNoRun}
use Rattle.serialise.specs.Whole.{IsGathered}
use Rattle.serialise.specs.OpenOrder.{open_order}

-- The schedule runs, and r is its open order: a rearrangement that runs to the same state, is whole, and leads every thread
-- through the same frames and statuses. Where no thread stands inside an atomic call at the end, it is the written order.
pub record IsOpened (P : Program) (s r : List ℕ) : Type 0 where
  pub end : State
  pub ran : run P s ≡ Some end
  pub ordered : r ≡ open_order P s
  pub gathered : IsGathered P s r end
  pub closed : open_thread P end ≡ None → r ≡ written_order P s

-- What comes of a schedule that is to be put in its open order, where `order` tells the schedule that an answer has: an answer has
-- the open order, and each refusal its reason. A schedule that runs is put in its open order, and one that stops is refused where
-- it stops, each time unless memory was wanting.
pub record IsOpening {T : Type 0} (P : Program) (s : List ℕ) (result : Result T RunEnd) (order : T → List ℕ) : Type 0 where
  pub opened : IfOk result (λ r. IsOpened P s (order r))
  pub refused : IfErr result (IsNoRun P s)
  pub opens : (q : State) → run P s ≡ Some q → MatchResult result (λ r. IsOpened P s (order r)) (λ e. e ≡ ends.NoMemory)
  pub stops : (stopped : Stopped) → IsStopped P (initial P) s stopped → MatchResult result (λ _. ⊥) (λ e. (e ≡ ends.Stopped stopped) ⊎ (e ≡ ends.NoMemory))
