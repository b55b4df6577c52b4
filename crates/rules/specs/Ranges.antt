-- Rows of methods that are ranges of one list, as a walk lays them: it goes down from each method to those of which it is the next one that they
-- override.
use Rattle.std.specs.Prelude.{◌≡◌, ◌≢◌, ℕ, ◌+◌, ◌-◌, ◌<◌, ◌≤◌, List, drop, take, Option, Some, None, option_and_then, slice_get}
use Rattle.base.specs.Ancestors.{steps_up, IsAncestor}
use Rattle.forest.specs.Walks.{above_in}
use Rattle.forest.specs.declared.steps.Step.{Step}
use Rattle.forest.specs.declared.steps.Step.TheVariants.{Down, Up}
use Rattle.rules.specs.declared.ranges.Range.{Range}

-- what stands in a range of a list
abbrev pub in_range : List ℕ → Range → List ℕ
in_range order range = take range.count (drop range.first order)

-- a range in which nothing stands
abbrev pub empty_range : Range
empty_range = record { first = 0; count = 0 }

-- a range; an empty one where there is none
abbrev pub range_or_empty : Option Range → Range
range_or_empty None = empty_range
range_or_empty (Some range) = range

-- the range of a method; an empty one where it has none
abbrev pub range_at : List Range → ℕ → Range
range_at ranges m = range_or_empty (slice_get ranges m)

-- ---- what the walk lays

-- by what methods override next, one step or more lead from the first method to the second, which is another one
abbrev pub LeadsOver : List (Option ℕ) → ℕ → ℕ → Type 0
LeadsOver nexts over m = (over ≢ m) × IsAncestor (above_in nexts) over m

-- a place of the list is in the range, and from the method that stands there the range's own method is reached
abbrev pub AreSound : List (Option ℕ) → List ℕ → List Range → Type 0
AreSound nexts order ranges = (m k : ℕ) (range : Range) → slice_get ranges m ≡ Some range → range.first ≤ k → k < range.first + range.count
    → (over : ℕ) × (slice_get order k ≡ Some over) × LeadsOver nexts over m

-- from this method, if there is one, any number of steps lead to the other one, or it is that one
abbrev pub StillBelow : List (Option ℕ) → Option ℕ → ℕ → Type 0
StillBelow nexts at m = (n : ℕ) × (option_and_then (λ d. steps_up (above_in nexts) n d) at ≡ Some m)

-- the walk is at this method, or above all: the ranges that have ended are sound, and those that have begun are so far; the walk is still below
-- the methods whose ranges have begun
pub record IsLaid (nexts : List (Option ℕ)) (at : Option ℕ) (order : List ℕ) (begun : List (Option ℕ)) (ranges : List Range) : Type 0 where
  pub ended : AreSound nexts order ranges
  pub so_far : (m first k over : ℕ) → above_in begun m ≡ Some first → first ≤ k → slice_get order k ≡ Some over → LeadsOver nexts over m
  pub below : (m first : ℕ) → above_in begun m ≡ Some first → StillBelow nexts at m

-- where a step of the walk begins
abbrev pub step_begin : List (Option ℕ) → Step → Option ℕ
step_begin nexts (Down n) = above_in nexts n
step_begin nexts (Up n) = Some n

-- ---- whether no row misses a method

-- a method stands right before its own range, and with that in another range
pub record Lies (order : List ℕ) (own other : Range) (over : ℕ) : Type 0 where
  pub begins : other.first < own.first
  pub ends : own.first + own.count ≤ other.first + other.count
  pub here : slice_get order (own.first - 1) ≡ Some over

-- a method stands right before its own range, and with that in the range of another one
abbrev pub LiesIn : List ℕ → List Range → ℕ → ℕ → Type 0
LiesIn order ranges over m = Lies order (range_at ranges over) (range_at ranges m) over

-- each method lies in the range of the next one that it overrides
abbrev pub LieBelowNext : List (Option ℕ) → List ℕ → List Range → Type 0
LieBelowNext nexts order ranges = (over m : ℕ) → above_in nexts over ≡ Some m → LiesIn order ranges over m
