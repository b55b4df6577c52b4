-- What a rewritten schedule is to the given one.
use Rattle.std.specs.Prelude.{◌≡◌, ℕ, List, Some}
use Rattle.core_program.specs.Core.{Program}
use Rattle.state.specs.States.{State, initial}
use Rattle.semantics.specs.Run.{run, own_states, IsUninterrupted, IsRearrangement}

-- a rearrangement of the schedule that runs to the same state, interrupts no atomic call, and leads every thread through the same frames and statuses
pub record IsSerial (P : Program) (s r : List ℕ) (q : State) : Type 0 where
  pub rearranges : IsRearrangement s r
  pub runs : run P r ≡ Some q
  pub uninterrupted : IsUninterrupted P r
  pub owns : (t : ℕ) → own_states P (initial P) t s ≡ own_states P (initial P) t r
