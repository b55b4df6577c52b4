-- What comes of a schedule: it is rewritten, it stops, or it ends with a thread inside an atomic call.
use Rattle.std.specs.Prelude.{◌≡◌, ◌⊎◌, ℕ, List, Some, None, Result, IfOk, IfErr, MatchResult}
use Rattle.core_program.specs.Core.{Program}
use Rattle.state.specs.States.{State, initial}
use Rattle.semantics.specs.Run.{run, open_thread}
use Rattle.semantics.specs.Units.{written_order}
use Rattle.reduction.specs.SerialSchedules.{IsSerial}
use Rattle.machine.specs.declared.machine.Stopped.{Stopped}
use Rattle.machine.specs.Standing.{IsStopped}
use Rattle.serialise.specs.declared.serial_end.SerialEnd.{SerialEnd}
use Rattle.serialise.specs.declared.serial_end.SerialEnd.TheVariants as ends

-- The schedule runs to a state with no thread inside an atomic call, and r is its written order: a rearrangement that runs to
-- the same state, interrupts no atomic call, and leads every thread through the same frames and statuses.
pub record IsRewritten (P : Program) (s r : List ℕ) : Type 0 where
  pub end : State
  pub ran : run P s ≡ Some end
  pub closed : open_thread P end ≡ None
  pub written : r ≡ written_order P s
  pub serial : IsSerial P s r end

-- the schedule runs to a state in which this is the least thread inside an atomic call
pub record EndsInside (P : Program) (s : List ℕ) (thread : ℕ) : Type 0 where
  pub end : State
  pub ran : run P s ≡ Some end
  pub least : open_thread P end ≡ Some thread

-- when each refusal comes; of want of memory nothing is said
abbrev pub IsRefused : Program → List ℕ → SerialEnd → Type 0
IsRefused P s (ends.Stopped stopped) = IsStopped P (initial P) s stopped
IsRefused P s (ends.Open thread) = EndsInside P s thread
IsRefused P s ends.NoMemory = Unit {0}

-- What comes of a schedule that is to be rewritten, where `order` tells the schedule that an answer has: an answer has the
-- written order, and each refusal its reason. A schedule that runs to a state with no thread inside an atomic call is rewritten,
-- one that stops is refused where it stops, and one that ends inside an atomic call for the least such thread, each time unless
-- memory was wanting.
pub record IsRewriting {T : Type 0} (P : Program) (s : List ℕ) (result : Result T SerialEnd) (order : T → List ℕ) : Type 0 where
  pub rewritten : IfOk result (λ r. IsRewritten P s (order r))
  pub refused : IfErr result (IsRefused P s)
  pub rewrites : (q : State) → run P s ≡ Some q → open_thread P q ≡ None → MatchResult result (λ r. IsRewritten P s (order r)) (λ e. e ≡ ends.NoMemory)
  pub stops : (stopped : Stopped) → IsStopped P (initial P) s stopped → MatchResult result (λ _. ⊥) (λ e. (e ≡ ends.Stopped stopped) ⊎ (e ≡ ends.NoMemory))
  pub opens : (thread : ℕ) → EndsInside P s thread → MatchResult result (λ _. ⊥) (λ e. (e ≡ ends.Open thread) ⊎ (e ≡ ends.NoMemory))
