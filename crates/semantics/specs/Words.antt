-- Reducible words of kinds, after Lipton (1975).
use Rattle.std.specs.Prelude.{◌≡◌, ◌≢◌, ◌≤◌, ℕ, Bool, true, false, ◌&&◌, ◌||◌, ◌==◌, List, [], ◌∷◌, ◌++◌, length, Some, slice_get, if◌then◌else◌}
use Rattle.std.specs.List.{list_all}
use Rattle.state.specs.declared.value.StepKind.{StepKind}
use Rattle.state.specs.declared.value.StepKind.TheVariants.{Both, Right, Left, Other, Bare}
use Rattle.semantics.specs.Units.{Entry, word_of, is_atomic_call, is_commit}

-- Right or Both
abbrev pub moves_right : StepKind → Bool
moves_right Right = true
moves_right Both = true
moves_right _ = false

-- Left or Both
abbrev pub moves_left : StepKind → Bool
moves_left Left = true
moves_left Both = true
moves_left _ = false

-- Other
abbrev pub is_other : StepKind → Bool
is_other Other = true
is_other _ = false

-- Right or Both any number of times, at most one Other, then Left or Both any number of times
pub record IsReducible (word : List StepKind) : Type 0 where
  pub before : List StepKind
  pub middle : List StepKind
  pub after : List StepKind
  pub is : word ≡ before ++ (middle ++ after)
  pub before_right : list_all moves_right before ≡ true
  pub middle_one : length middle ≤ 1
  pub middle_other : list_all is_other middle ≡ true
  pub after_left : list_all moves_left after ≡ true

-- the word can be made reducible by more kinds at its end
pub record IsReduciblePrefix (word : List StepKind) : Type 0 where
  pub rest : List StepKind
  pub whole : IsReducible (word ++ rest)

-- a test for reducible words, read from the left: nothing but Left and Both comes after the first Left or Other
abbrev pub is_reducible : List StepKind → Bool
is_reducible [] = true
is_reducible (Both ∷ ks) = is_reducible ks
is_reducible (Right ∷ ks) = is_reducible ks
is_reducible (Left ∷ ks) = list_all moves_left ks
is_reducible (Other ∷ ks) = list_all moves_left ks
is_reducible (Bare ∷ ks) = false

-- no entry of a run is Bare
abbrev pub HasNoBare : List Entry → Type 0
HasNoBare es = (place : ℕ) (e : Entry) → slice_get es place ≡ Some e → e.kind ≢ Bare

-- the word of each atomic call is reducible
abbrev pub HasWords : List (List Entry) → Type 0
HasWords us = (n : ℕ) (u : List Entry) → slice_get us n ≡ Some u → is_atomic_call u ≡ true → IsReducible (word_of u)

-- whether the step may be made in an atomic call, by whether that made a Left or Other step before
abbrev pub fits_phase : (committed : Bool) → StepKind → Bool
fits_phase true kind = moves_left kind
fits_phase false Bare = false
fits_phase false Both = true
fits_phase false Right = true
fits_phase false Left = true
fits_phase false Other = true

-- for each thread, whether the call that it stands in after an entry made a Left or Other step
abbrev pub next_phase : (committed : ℕ → Bool) → Entry → ℕ → Bool
next_phase committed e t = if t == e.thread then e.inside && (committed e.thread || is_commit e.kind) else committed t

-- each entry of a run may be made where it stands
abbrev pub FitPhases : (committed : ℕ → Bool) → List Entry → Type 0
FitPhases committed [] = Unit {0}
FitPhases committed (e ∷ es) = (fits_phase (committed e.thread) e.kind ≡ true) × FitPhases (next_phase committed e) es
