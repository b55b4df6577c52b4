-- Schedules in which no thread steps between two steps of another's atomic call, also where calls are left open at the end.
use Rattle.std.specs.Prelude.{◌≡◌, ℕ, ◌+◌, ◌<◌, ◌≤◌, true, List, Some, take, slice_get}
use Rattle.core_program.specs.Core.{Program}
use Rattle.state.specs.States.{State, initial}
use Rattle.semantics.specs.Run.{run, Runs, inside, own_states, IsRearrangement}
use Rattle.semantics.specs.Units.{Entry, entries, units}

-- the thread stands inside an atomic call after each entry from the first place to before the last: its entries there are of
-- one outermost atomic call
abbrev pub StaysInside : Program → List ℕ → (t first last : ℕ) → Type 0
StaysInside P s t first last = (place : ℕ) (q : State) → first ≤ place → place < last → run P (take (place + 1) s) ≡ Some q → inside P q t ≡ true

-- the schedule runs, and no entry of another thread stands between two entries of one outermost atomic call
pub record IsWhole (P : Program) (s : List ℕ) : Type 0 where
  pub runs : Runs P s
  pub together : (t first last : ℕ) → slice_get s first ≡ Some t → slice_get s last ≡ Some t → StaysInside P s t first last →
      (place u : ℕ) → first < place → place < last → slice_get s place ≡ Some u → u ≡ t

-- a rearrangement of the schedule that runs to the same state, is whole, and leads every thread through the same frames and statuses
pub record IsGathered (P : Program) (s r : List ℕ) (q : State) : Type 0 where
  pub rearranges : IsRearrangement s r
  pub runs : run P r ≡ Some q
  pub whole : IsWhole P r
  pub owns : (t : ℕ) → own_states P (initial P) t s ≡ own_states P (initial P) t r

-- the same by units: no entry of another thread stands between two entries of one unit
abbrev pub AreUnitsWhole : Program → List ℕ → Type 0
AreUnitsWhole P s = (n : ℕ) (u : List Entry) → slice_get (units (entries P s)) n ≡ Some u →
    (i j k : ℕ) (e f g : Entry) → slice_get u i ≡ Some e → slice_get u j ≡ Some f → slice_get (entries P s) k ≡ Some g →
    e.place < g.place → g.place < f.place → g.thread ≡ e.thread
