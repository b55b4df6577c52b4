-- Lists of parts: what holds of each, which one stands where, and lists of parts none of which is missing.
use Rattle.std.proofs.Common.{◌≡◌, ℕ, ◌+◌, ◌<◌, zero, suc, Bool, true, false, not, cond, ◌||◌, List, [], ◌∷◌, ◌++◌, map, flat_map, length, Option, Some, None, refl, ap, ap₂, sym, ◌∙◌, All, position, slice_get, nat_lt, arith, option_map}
use Rattle.std.specs.List.{list_any, position_or_len}
use Rattle.std.proofs.lemmas.Option.{slice_get-map, same_Some}
use Rattle.std.proofs.lemmas.List.Elements.{All-cons, All-nil}
use Rattle.std.proofs.lemmas.Bool.Decides.{nat_tests}
use Rattle.base.proofs.Options.{map_parts}
use Rattle.classes.proofs.Parts.{Each}
use Rattle.typing.specs.Rulings.{both}
use Rattle.typing.specs.Programs.{all_there}
use Rattle.typing.proofs.Complete.{front_empty, back_empty}
use Rattle.typing.proofs.Inversions.{both_of}

-- ---- what holds of each part

pub each_along : {A : Type 0} (P Q : A → Type 0) (xs : List A) → ((x : A) → P x → Q x) → Each P xs → Each Q xs
each_along P Q [] f h = tt
each_along P Q (x ∷ xs) f h = (f x h.0, each_along P Q xs f h.1)

pub each_mapped : {A B : Type 0} (P : B → Type 0) (f : A → B) (xs : List A) → Each (λ x. P (f x)) xs → Each P (map f xs)
each_mapped P f [] h = tt
each_mapped P f (x ∷ xs) h = (h.0, each_mapped P f xs h.1)

pub all_of : {A : Type 0} (P : A → Type 0) (xs : List A) → Each P xs → All P xs
all_of P [] h = All-nil P
all_of P (x ∷ xs) h = All-cons P x xs h.0 (all_of P xs h.1)

-- ---- which part stands where

pub at_right : {A : Type 0} (xs ys : List A) (i n : ℕ) → n ≡ length xs + i → slice_get (xs ++ ys) n ≡ slice_get ys i
at_right [] ys i n e = let same : n ≡ i = omega (arith, e) in ap (slice_get ys) same
at_right (x ∷ xs) ys i zero e = absurd (omega (arith, e))
at_right (x ∷ xs) ys i (suc n) e = at_right xs ys i n (omega (arith, e))

-- an element that passes a test, where there is one
pub any_at : {A : Type 0} (p : A → Bool) (xs : List A) → list_any p xs ≡ true → (i : ℕ) × (x : A) × (slice_get xs i ≡ Some x) × (p x ≡ true)
any_at p [] = λ h. absurd (let e : false ≡ true = h in cc)
any_at {A} p (x ∷ xs) =
    elim (p x) as (λ b. p x ≡ b → (b || list_any p xs) ≡ true → (i : ℕ) × (y : A) × (slice_get (x ∷ xs) i ≡ Some y) × (p y ≡ true)) [
      | true ↦ λ is h. (0, x, refl, is)
      | false ↦ λ is h. let k = any_at p xs h in (suc k.0, k.1, k.2, k.3)
    ] refl

any_within : {A : Type 0} (p : A → Bool) (xs : List A) → list_any p xs ≡ true → position_or_len p xs < length xs
any_within p [] = λ h. absurd (let e : false ≡ true = h in cc)
any_within p (x ∷ xs) =
    elim (p x) as (λ b. (b || list_any p xs) ≡ true → cond (not b) (1 + position_or_len p xs) 0 < length (x ∷ xs)) [
      | true ↦ λ h. omega arith
      | false ↦ λ h. omega (arith, any_within p xs h)
    ]

-- the first that passes a test has a place, where there is one
pub any_position : {A : Type 0} (p : A → Bool) (xs : List A) → list_any p xs ≡ true → (i : ℕ) × (position p xs ≡ Some i)
any_position p xs h =
    (position_or_len p xs, ap (λ b. cond b (Some (position_or_len p xs)) None) (below (position_or_len p xs) (length xs) (any_within p xs h)))
  where
    below : (m n : ℕ) → m < n → nat_lt m n ≡ true
    below m n h = grind (arith, nat_tests)

-- ---- lists of parts none of which is missing

pub there_are : {A : Type 0} (os : List (Option A)) (xs : List A) → all_there os ≡ Some xs → os ≡ map Some xs
there_are [] xs h = ap (map Some) (same_Some [] xs h)
there_are {A} (o ∷ os) xs h =
    let cons : A × List A → List A = λ p. p.0 ∷ p.1 in
    let p = map_parts cons (both o (all_there os)) xs h in
    let q = both_of o (all_there os) p.0 p.1 in
    ap₂ (λ x y. x ∷ y) q.0 (there_are os p.0.1 q.1) ∙ ap (map Some) p.2

met : {D X : Type 0} (f : D → Option X) (o : Option D) (p : Option X) → option_map f o ≡ option_map Some p → (d : D) → o ≡ Some d → (x : X) × (p ≡ Some x) × (f d ≡ Some x)
met f o (Some x) h d is = (x, refl, same_Some (f d) (Some x) (sym (ap (option_map f) is) ∙ h))
met f o None h d is = absurd (let e : Some (f d) ≡ None = sym (ap (option_map f) is) ∙ h in cc)

met_back : {D X : Type 0} (f : D → Option X) (o : Option D) (p : Option X) → option_map f o ≡ option_map Some p → (x : X) → p ≡ Some x → (d : D) × (o ≡ Some d) × (f d ≡ Some x)
met_back f (Some d) p h x is = (d, refl, same_Some (f d) (Some x) (h ∙ ap (option_map Some) is))
met_back f None p h x is = absurd (let e : None ≡ Some (Some x) = h ∙ ap (option_map Some) is in cc)

same_at : {D X : Type 0} (f : D → Option X) (ds : List D) (xs : List X) → map f ds ≡ map Some xs → (i : ℕ) → option_map f (slice_get ds i) ≡ option_map Some (slice_get xs i)
same_at f ds xs h i = sym (slice_get-map f ds i) ∙ ap (λ z. slice_get z i) h ∙ slice_get-map Some xs i

-- a part's result stands where the part stands
pub result_at : {D X : Type 0} (f : D → Option X) (ds : List D) (xs : List X) → map f ds ≡ map Some xs → (i : ℕ) (d : D) → slice_get ds i ≡ Some d
    → (x : X) × (slice_get xs i ≡ Some x) × (f d ≡ Some x)
result_at f ds xs h i d is = met f (slice_get ds i) (slice_get xs i) (same_at f ds xs h i) d is

pub part_at : {D X : Type 0} (f : D → Option X) (ds : List D) (xs : List X) → map f ds ≡ map Some xs → (i : ℕ) (x : X) → slice_get xs i ≡ Some x
    → (d : D) × (slice_get ds i ≡ Some d) × (f d ≡ Some x)
part_at f ds xs h i x is = met_back f (slice_get ds i) (slice_get xs i) (same_at f ds xs h i) x is

pub head_same : {A : Type 0} (x y : A) (xs ys : List A) → x ∷ xs ≡ y ∷ ys → x ≡ y
head_same x y xs ys h = cc

pub tail_same : {A : Type 0} (x y : A) (xs ys : List A) → x ∷ xs ≡ y ∷ ys → xs ≡ ys
tail_same x y xs ys h = cc

-- what is told alike of a part and of its result
pub told_alike : {D X Y : Type 0} (f : D → Option X) (g : X → Y) (h : D → Y) → ((d : D) (x : X) → f d ≡ Some x → g x ≡ h d)
    → (ds : List D) (xs : List X) → map f ds ≡ map Some xs → map g xs ≡ map h ds
told_alike f g h alike [] [] e = refl
told_alike f g h alike [] (x ∷ xs) e = absurd (let k : [] ≡ Some x ∷ map Some xs = e in cc)
told_alike f g h alike (d ∷ ds) [] e = absurd (let k : f d ∷ map f ds ≡ [] = e in cc)
told_alike f g h alike (d ∷ ds) (x ∷ xs) e =
    ap₂ (λ a b. a ∷ b) (alike d x (head_same (f d) (Some x) (map f ds) (map Some xs) e))
    (told_alike f g h alike ds xs (tail_same (f d) (Some x) (map f ds) (map Some xs) e))

pub as_many : {D X : Type 0} (f : D → Option X) (ds : List D) (xs : List X) → map f ds ≡ map Some xs → length xs ≡ length ds
as_many f [] [] e = refl
as_many f [] (x ∷ xs) e = absurd (let k : [] ≡ Some x ∷ map Some xs = e in cc)
as_many f (d ∷ ds) [] e = absurd (let k : f d ∷ map f ds ≡ [] = e in cc)
as_many f (d ∷ ds) (x ∷ xs) e = ap suc (as_many f ds xs (tail_same (f d) (Some x) (map f ds) (map Some xs) e))

-- ---- no faults

pub none_mapped : {A B : Type 0} (f : A → B) (xs : List A) → map f xs ≡ [] → xs ≡ []
none_mapped f [] h = refl
none_mapped f (x ∷ xs) h = absurd (let e : f x ∷ map f xs ≡ [] = h in cc)

-- where no part has a fault
pub each_faultless : {A B : Type 0} (f : A → List B) (xs : List A) → flat_map f xs ≡ [] → Each (λ x. f x ≡ []) xs
each_faultless f [] h = tt
each_faultless f (x ∷ xs) h = (front_empty (f x) (flat_map f xs) h, each_faultless f xs (back_empty (f x) (flat_map f xs) h))
