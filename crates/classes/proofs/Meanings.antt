-- The meanings of locks, one name and one lock after the other.
use Rattle.std.proofs.Common.{◌≡◌, ℕ, ◌-◌, ◌<◌, zero, suc, Bool, false, List, [], ◌∷◌, ◌++◌, Option, Some, None, map, drop, length, refl, ap, sym, ◌∙◌, arith}
use Rattle.std.specs.Option.{option_map, option_or}
use Rattle.syntax.specs.Trees.{ProgramTree}
use Rattle.classes.specs.Lines.{ancestors, members_at}
use Rattle.classes.specs.Overriding.{FieldPlace, FoundField, are_same_places, field_from, field_along}
use Rattle.classes.proofs.Climbing.{next_ancestor}

-- a list before another one that may be missing
abbrev pub put_before : {A : Type 0} → List A → Option (List A) → Option (List A)
put_before xs o = option_map (λ ys. xs ++ ys) o

-- where a class has no field of a name, one above it may have it
pub field_later : (tree : ProgramTree) (step : ℕ → Option ℕ) (n c : ℕ) (name : List ℕ) (all : Option FoundField) → 0 < n → field_along tree (ancestors step n (Some c)) name ≡ all
    → None ≡ field_from c 0 (members_at tree c) name → field_along tree (ancestors step (n - 1) (step c)) name ≡ all
field_later tree step n c name all some so_far none =
    ap (λ o. option_or o (field_along tree (ancestors step (n - 1) (step c)) name)) none
    ∙ ap (λ ks. field_along tree ks name) (sym (next_ancestor step n c some))
    ∙ so_far

some_left : {X : Type 0} (xs : List X) (i : ℕ) → i < length xs → (x : X) × (ys : List X) × (drop i xs ≡ x ∷ ys)
some_left [] i within = absurd (omega (arith, within))
some_left (x ∷ xs) zero within = (x, xs, refl)
some_left (x ∷ xs) (suc i) within = some_left xs i (omega (arith, within))

-- where fields are left in the first list and none in the second
pub runs_out : {X : Type 0} (view : X → FieldPlace) (one rest : List X) (i : ℕ) (all : Bool) → i < length one
    → are_same_places (map view (drop i one)) (map view rest) ≡ all → length rest ≡ 0 → false ≡ all
runs_out view one [] i all within so_far none = let left = some_left one i within in ap (λ z. are_same_places (map view z) []) (sym left.2) ∙ so_far
runs_out view one (y ∷ ys) i all within so_far none = absurd (omega (arith, none))
