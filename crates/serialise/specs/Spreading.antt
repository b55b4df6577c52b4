-- Putting a run's steps into the open order, by the sizes of its units.
use Rattle.std.specs.Prelude.{ℕ, ◌+◌, Bool, not, ◌&&◌, ◌==◌, List, [], ◌∷◌, ◌++◌, replicate, if◌then◌else◌}
use Rattle.semantics.specs.Units.{is_commit}
use Rattle.serialise.specs.declared.step.Step.{Step}
use Rattle.serialise.specs.Tables.{put_at}

-- whether a unit that has its commit place at this step doesn't commit: the step is the last one of a call that is left open,
-- and neither Left nor Other
abbrev pub stays_open : Step → Bool
stays_open step = step.inside && not (is_commit step.kind)

-- how many steps the unit at a place has, where it commits, and where it doesn't
abbrev pub committed_size : (sizes : ℕ → ℕ) → (place : ℕ) → Step → ℕ
committed_size sizes place step = if stays_open step then 0 else sizes place

-- how many steps the unit at a place has, where it doesn't commit; else 0
abbrev pub left_size : (sizes : ℕ → ℕ) → (place : ℕ) → Step → ℕ
left_size sizes place step = if stays_open step then sizes place else 0

-- each step's thread, as often as the unit that commits at its place has steps; the first step has this place
abbrev pub spread_committed : (sizes : ℕ → ℕ) → (place : ℕ) → List Step → List ℕ
spread_committed sizes place [] = []
spread_committed sizes place (step ∷ steps) = replicate (committed_size sizes place step) step.thread ++ spread_committed sizes (place + 1) steps

-- the sizes by thread, with one more unless it is 0
abbrev pub with_left : (thread size : ℕ) → (ℕ → ℕ) → ℕ → ℕ
with_left thread size lefts other = if size == 0 then lefts other else put_at lefts thread size other

-- by thread, how many steps its unit has that doesn't commit
abbrev pub left_sizes : (sizes : ℕ → ℕ) → (place : ℕ) → List Step → ℕ → ℕ
left_sizes sizes place [] = λ thread. 0
left_sizes sizes place (step ∷ steps) = with_left step.thread (left_size sizes place step) (left_sizes sizes (place + 1) steps)

-- each thread, counted from this one, as often as its size says
abbrev pub spread_threads : (thread : ℕ) → List ℕ → List ℕ
spread_threads thread [] = []
spread_threads thread (size ∷ sizes) = replicate size thread ++ spread_threads (thread + 1) sizes
