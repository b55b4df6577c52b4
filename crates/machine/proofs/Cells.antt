-- A thread among the others, after something was done to it.
use Rattle.std.proofs.Common.{◌≡◌, ℕ, zero, suc, List, [], ◌∷◌, ◌++◌, get_or, refl, sym, ap, subst, ◌∙◌}
use Rattle.std.specs.Prelude.{Option, Some, None, IsSome, option_and_then, Result, Ok, Err, OnOk, OnErr, map, slice_get, slice_set}
use Rattle.std.specs.declared.alloc.AllocError.{AllocError}
use Rattle.std.proofs.lemmas.Option.{slice_get_within}
use Rattle.std.proofs.lemmas.List.{map-set, map-append, set-append_left, set-get_or}
use Rattle.state.specs.States.{ThreadOf}
use Rattle.state.specs.Frames.{CellFrame, CodeFrame, code_thread, top_frame}

pub the_same : {A : Type 0} (o : Option A) (x y : A) → o ≡ Some x → o ≡ Some y → x ≡ y
the_same o x y a b = cc

module _ (ts : List (ThreadOf CellFrame)) (t : ℕ) (cell : ThreadOf CellFrame) (there : slice_get ts t ≡ Some cell) where
  -- what was found of the thread of this number holds of each that stands there
  pub of_found : {A : Type 0} (r : Result (Unit {0}) AllocError) (x : A) (f : ThreadOf CellFrame → A) → OnOk r (x ≡ f cell) → OnOk r ((c : ThreadOf CellFrame) → slice_get ts t ≡ Some c → x ≡ f c)
  of_found (Ok u) x f is = λ c found. is ∙ ap f (the_same (slice_get ts t) cell c there found)
  of_found (Err e) x f is = tt

  pub set_found : (r : Result (Unit {0}) AllocError) (after : ThreadOf CellFrame) (f : ThreadOf CodeFrame → ThreadOf CodeFrame) → OnOk r (code_thread after ≡ f (code_thread cell))
      → OnOk r ((c : ThreadOf CellFrame) → slice_get ts t ≡ Some c → map code_thread (slice_set ts t after) ≡ slice_set (map code_thread ts) t (f (code_thread c)))
  set_found (Ok u) after f is =
      λ c found. map-set code_thread ts t after ∙ ap (slice_set (map code_thread ts) t) (is ∙ ap (λ x. f (code_thread x)) (the_same (slice_get ts t) cell c there found))
  set_found (Err e) after f is = tt

pub set_kept : (r : Result (Unit {0}) AllocError) (ts : List (ThreadOf CellFrame)) (t : ℕ) (cell after : ThreadOf CellFrame) → cell ≡ get_or ts t cell → OnErr r (code_thread after ≡ code_thread cell)
    → OnErr r (map code_thread (slice_set ts t after) ≡ map code_thread ts)
set_kept (Ok u) ts t cell after there is = tt
set_kept (Err e) ts t cell after there is =
    map-set code_thread ts t after ∙ ap (slice_set (map code_thread ts) t) is ∙ sym (map-set code_thread ts t cell) ∙ ap (map code_thread) (ap (slice_set ts t) there ∙ set-get_or ts t cell)

none_some : {A F : Type 0} (x : A) → None ≡ Some x → F
none_some x is = absurd cc

kept_first : (ts : List (ThreadOf CellFrame)) (t : ℕ) (c x : ThreadOf CellFrame) → slice_get ts t ≡ Some c → slice_get (ts ++ x ∷ []) t ≡ Some c
kept_first [] t c x there = none_some c there
kept_first (y ∷ ts) zero c x there = there
kept_first (y ∷ ts) (suc t) c x there = kept_first ts t c x there

pub one_more_is : (ts more : List (ThreadOf CellFrame)) (x y : ThreadOf CellFrame) → more ≡ ts ++ x ∷ [] → x ≡ y → more ≡ ts ++ y ∷ []
one_more_is ts more x y is same = is ∙ ap (λ z. ts ++ z ∷ []) same

-- one thread more stands behind the others, and the one of this number was found
module _ (ts more : List (ThreadOf CellFrame)) (t : ℕ) (ready cell : ThreadOf CellFrame) (is : more ≡ ts ++ ready ∷ []) (there : slice_get more t ≡ Some cell) where
  same_found : (c : ThreadOf CellFrame) → slice_get ts t ≡ Some c → cell ≡ c
  same_found c found = the_same (slice_get more t) cell c there (ap (λ xs. slice_get xs t) is ∙ kept_first ts t c ready found)

  top_of : (o : Option (ThreadOf CellFrame)) → slice_get ts t ≡ o → IsSome (option_and_then top_frame o) → IsSome (top_frame cell)
  top_of None found top = absurd cc
  top_of (Some c) found top = subst (λ x. IsSome (top_frame x)) (sym (same_found c found)) top

  pub top_found : IsSome (option_and_then top_frame (slice_get ts t)) → IsSome (top_frame cell)
  top_found top = top_of (slice_get ts t) refl top

  pub set_before : (after : ThreadOf CellFrame) (f : ThreadOf CodeFrame → ThreadOf CodeFrame) → code_thread after ≡ f (code_thread cell) → (c : ThreadOf CellFrame) → slice_get ts t ≡ Some c
      → map code_thread (slice_set more t after) ≡ slice_set (map code_thread ts) t (f (code_thread c)) ++ code_thread ready ∷ []
  set_before after f after_is c found =
      ap (λ xs. map code_thread (slice_set xs t after)) is ∙ ap (map code_thread) (set-append_left ts (ready ∷ []) t after (slice_get_within ts t c found))
      ∙ map-append code_thread (slice_set ts t after) (ready ∷ [])
      ∙ ap (λ xs. xs ++ code_thread ready ∷ []) (map-set code_thread ts t after ∙ ap (slice_set (map code_thread ts) t) (after_is ∙ ap (λ x. f (code_thread x)) (same_found c found)))
