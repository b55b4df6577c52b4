-- A set of names has those that are added to it.
use Rattle.std.proofs.Common.{◌≡◌, ℕ, ◌<◌, ◌+◌, ◌==◌, ◌||◌, Bool, true, false, List, [], ◌∷◌, ◌++◌, length, map, drop, Option, Some, refl, append_assoc, sym, ap, subst, ◌∙◌, arith, slice_get, get_or, position, bytes_eq, if◌then◌else◌}
use Rattle.std.specs.Prelude.{IsSome}
use Rattle.std.specs.List.{list_any}
use Rattle.std.proofs.lemmas.Bool.{eqb-true, eqb-false, or_left, or_right}
use Rattle.std.proofs.lemmas.List.{map-append}
use Rattle.std.proofs.lemmas.List.Folds.{list_any-append}
use Rattle.base.proofs.Lists.{next_drop}
use Rattle.std.proofs.lemmas.Option.{same_Some, slice_get_read}
use Rattle.std.proofs.lemmas.Slice.Eq.{bytes_eq-Decides}
use Rattle.classes.specs.Names.{has_text, with_text}
use Rattle.classes.specs.Table.{MethodData}
use Rattle.classes.proofs.Parts.{mapped_at}
use Rattle.typing.proofs.Parts.{any_position}

has_new : (texts : List (List ℕ)) (text : List ℕ) → has_text (with_text texts text) text ≡ true
has_new texts text = by_test (has_text texts text) refl
  where
    by_test : (b : Bool) → has_text texts text ≡ b → has_text (if b then texts else texts ++ text ∷ []) text ≡ true
    by_test true has = has
    by_test false new =
        list_any-append (bytes_eq text) texts (text ∷ [])
        ∙ or_right (list_any (bytes_eq text) texts) (bytes_eq text text || false) (ap (λ b. b || false) ((bytes_eq-Decides text text).1 refl))

has_old : (texts : List (List ℕ)) (text other : List ℕ) → has_text texts other ≡ true → has_text (with_text texts text) other ≡ true
has_old texts text other has = by_test (has_text texts text)
  where
    by_test : (b : Bool) → has_text (if b then texts else texts ++ text ∷ []) other ≡ true
    by_test true = has
    by_test false = list_any-append (bytes_eq other) texts (text ∷ []) ∙ or_left (list_any (bytes_eq other) texts) (bytes_eq other text || false) has

-- the names of the first methods, so many, are there
abbrev pub HasFirst : {A : Type 0} → (A → MethodData) → List A → List (List ℕ) → ℕ → Type 0
HasFirst view methods texts count = (i : ℕ) (m : MethodData) → i < count → slice_get (map view methods) i ≡ Some m → has_text texts m.name ≡ true

-- one more
pub has_one_more : {A : Type 0} (view : A → MethodData) (methods : List A) (texts more : List (List ℕ)) (count : ℕ) (method : A) → count < length methods → method ≡ get_or methods count method
    → more ≡ with_text texts (view method).name → HasFirst view methods texts count → HasFirst view methods more (count + 1)
has_one_more view methods texts more count method within is added so_far i m below at = subst (λ z. has_text z m.name ≡ true) (sym added) (by_place (i == count) refl)
  where
    by_place : (b : Bool) → (i == count) ≡ b → has_text (with_text texts (view method).name) m.name ≡ true
    by_place true same =
        let here = mapped_at view methods count method (slice_get_read methods (length methods) count method refl within is) in
        let last = same_Some (view method) m (sym here ∙ ap (slice_get (map view methods)) (sym (eqb-true i count same)) ∙ at) in
        ap (λ (z : MethodData). has_text (with_text texts (view method).name) z.name) (sym last) ∙ has_new texts (view method).name
    by_place false other = let apart = eqb-false i count other in has_old texts (view method).name m.name (so_far i m (below_it apart) at)
      where
        below_it : (i ≡ count → ⊥) → i < count
        below_it differs = omega (arith, below, differs)

-- a name that a set has is found in it
pub is_placed : (texts : List (List ℕ)) (text : List ℕ) → has_text texts text ≡ true → IsSome (position (bytes_eq text) texts)
is_placed texts text has = let p = any_position (bytes_eq text) texts has in ap Rattle.std.specs.Option.is_some p.1

-- the place of one name more was added
pub one_placed : {A : Type 0} (view : A → MethodData) (names : List (List ℕ)) (methods : List A) (index : ℕ) (method : A) (numbers more : List ℕ) (place number : ℕ)
    → index < length methods → method ≡ get_or methods index method → position (bytes_eq (view method).name) names ≡ Some place → number ≡ place → more ≡ numbers ++ number ∷ []
    → map (λ n. Some n) numbers ++ map (λ m. position (bytes_eq m.name) names) (map view (drop index methods)) ≡ map (λ m. position (bytes_eq m.name) names) (map view methods)
    → map (λ n. Some n) more ++ map (λ m. position (bytes_eq m.name) names) (map view (drop (index + 1) methods)) ≡ map (λ m. position (bytes_eq m.name) names) (map view methods)
one_placed view names methods index method numbers more place number within is placed told added so_far =
    let told_place : MethodData → Option ℕ = λ m. position (bytes_eq m.name) names in
    let rest = map told_place (map view (drop (index + 1) methods)) in
    ap (λ xs. map (λ (n : ℕ). Some n) xs ++ rest) added
    ∙ ap (λ xs. xs ++ rest) (map-append (λ (n : ℕ). Some n) numbers (number ∷ []))
    ∙ append_assoc (map (λ (n : ℕ). Some n) numbers) (Some number ∷ []) rest
    ∙ ap (λ o. map (λ (n : ℕ). Some n) numbers ++ (o ∷ rest)) (ap Some told ∙ sym placed)
    ∙ ap (λ xs. map (λ (n : ℕ). Some n) numbers ++ map told_place (map view xs)) (sym (next_drop methods index method within is))
    ∙ so_far
