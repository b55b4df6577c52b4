-- Schedules that show that a promise of an atomic call is broken.
use Rattle.std.specs.Prelude.{◌≡◌, ℕ, List, Some, None}
use Rattle.core_program.specs.Core.{Program}
use Rattle.state.specs.States.{State}
use Rattle.semantics.specs.Run.{run, open_thread, IsUninterrupted, IsRearrangement}

-- How two ends of schedules are compared. A comparison that tells less apart makes a stronger witness.
pub data Comparison : Type 0 where
  -- as whole states
  SameState : Comparison
  -- by their objects and the printed numbers: locks and threads don't count
  SameObjects : Comparison
  -- by the printed numbers alone
  SameOutput : Comparison

-- the second end is like the first, compared so
abbrev pub IsLike : Comparison → State → State → Type 0
IsLike SameState q e = e ≡ q
IsLike SameObjects q e = (e.heap ≡ q.heap) × (e.output ≡ q.output)
IsLike SameOutput q e = e.output ≡ q.output

module _ (P : Program) (Like : State → State → Type 0) where
  -- an order for a schedule that ends in this state: a rearrangement that interrupts no atomic call, and runs to a state like it
  pub record IsOrder (s : List ℕ) (q : State) (r : List ℕ) : Type 0 where
    pub rearranges : IsRearrangement s r
    pub uninterrupted : IsUninterrupted P r
    pub last : State
    pub runs : run P r ≡ Some last
    pub like : Like q last

  -- some order keeps the promises of all atomic calls in the schedule
  abbrev pub IsKeptAs : List ℕ → State → Type 0
  IsKeptAs s q = (r : List ℕ) × IsOrder s q r

  -- the schedule runs to a state with no thread inside an atomic call, and no order for it runs to a state like that
  pub record IsWitnessAs (s : List ℕ) : Type 0 where
    pub last : State
    pub runs : run P s ≡ Some last
    pub closed : open_thread P last ≡ None
    pub broken : IsKeptAs s last → ⊥

  -- this schedule, whichever its entries are, interrupts no atomic call, and runs to a state like this one
  pub record IsWay (q : State) (r : List ℕ) : Type 0 where
    pub uninterrupted : IsUninterrupted P r
    pub last : State
    pub runs : run P r ≡ Some last
    pub like : Like q last

  -- some schedule is such a way
  abbrev pub IsReachedAs : State → Type 0
  IsReachedAs q = (r : List ℕ) × IsWay q r

  -- the schedule runs to a state with no thread inside an atomic call, and no schedule at all that interrupts no atomic call
  -- runs to a state like that
  pub record IsFullWitnessAs (s : List ℕ) : Type 0 where
    pub last : State
    pub runs : run P s ≡ Some last
    pub closed : open_thread P last ≡ None
    pub broken : IsReachedAs last → ⊥

-- a rearrangement of the schedule runs to the same state and interrupts no atomic call
abbrev pub IsStateKept : Program → List ℕ → State → Type 0
IsStateKept P s q = IsKeptAs P (IsLike SameState) s q

-- the schedule runs to a state with no thread inside an atomic call, and isn't kept
abbrev pub IsWitness : Program → List ℕ → Type 0
IsWitness P s = IsWitnessAs P (IsLike SameState) s

-- where ends are like each other by the first comparison, so they are by the second one
abbrev pub IsWeaker : Comparison → Comparison → Type 0
IsWeaker strong weak = (q e : State) → IsLike strong q e → IsLike weak q e
