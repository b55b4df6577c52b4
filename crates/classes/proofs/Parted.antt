-- Members of several classes, one class after the other.
use Rattle.std.proofs.Common.{◌≡◌, ℕ, ◌+◌, ◌-◌, ◌<◌, ◌≤◌, nat_lt, zero, suc, Bool, true, false, not, List, [], ◌∷◌, ◌++◌, Option, Some, None, slice_get, map, drop, get_or, length, refl, ap, sym, ◌∙◌, arith, append_assoc, if◌then◌else◌}
use Rattle.std.proofs.Math.Seq.{drop-cons}
use Rattle.std.proofs.lemmas.List.{append-nil, length-map}
use Rattle.std.proofs.lemmas.Bool.{ltb-false}
use Rattle.syntax.specs.declared.tree.Class.{Class}
use Rattle.syntax.specs.Views.{class_of}
use Rattle.std.proofs.lemmas.List.Concat.{flat_map-cons}
use Rattle.std.proofs.lemmas.Option.{none-some, slice_get_past}
use Rattle.base.proofs.Lists.{at_left}
use Rattle.syntax.specs.declared.tree.Name.{Name}
use Rattle.syntax.specs.declared.tree.TypeName.{TypeName}
use Rattle.syntax.specs.Trees.{MemberTree, FieldM, CtorM, MethodM, ProgramTree}
use Rattle.classes.specs.Lines.{members_in, members_at}
use Rattle.classes.specs.Names.{with_text, distinct_after}
use Rattle.classes.specs.Members.{has_none, finals_of, field_names}
use Rattle.classes.specs.Families.{members_along}
use Rattle.classes.proofs.Faultless.{field_names_append}

-- the members from a class on
pub parts_from : (tree : ProgramTree) (order : List ℕ) (i k : ℕ) → i < length order → k ≡ get_or order i 0
    → members_along tree (drop i order) ≡ members_at tree k ++ members_along tree (drop (i + 1) order)
parts_from tree order i k within at =
    let next : suc i ≡ i + 1 = omega arith in
    ap (members_along tree) (drop-cons order i 0 within ∙ ap (λ z. z ∷ drop (suc i) order) (sym at) ∙ ap (λ n. k ∷ drop n order) next)
    ∙ flat_map-cons (members_at tree) k (drop (i + 1) order)

pub finals_append : (xs ys : List MemberTree) → finals_of (xs ++ ys) ≡ finals_of xs ++ finals_of ys
finals_append [] ys = refl
finals_append (FieldM f ∷ xs) ys = by_mark f.is_final (finals_append xs ys)
  where
    by_mark : (b : Bool) → finals_of (xs ++ ys) ≡ finals_of xs ++ finals_of ys
        → (if b then (f.ty, f.name) ∷ finals_of (xs ++ ys) else finals_of (xs ++ ys)) ≡ (if b then (f.ty, f.name) ∷ finals_of xs else finals_of xs) ++ finals_of ys
    by_mark true later = ap (λ fs. (f.ty, f.name) ∷ fs) later
    by_mark false later = later
finals_append (CtorM n params sets ∷ xs) ys = finals_append xs ys
finals_append (MethodM m ∷ xs) ys = finals_append xs ys

pub distinct_append : (xs ys : List Name) (seen : List (List ℕ)) → distinct_after seen (xs ++ ys) ≡ distinct_after (distinct_after seen xs) ys
distinct_append [] ys seen = refl
distinct_append (x ∷ xs) ys seen = distinct_append xs ys (with_text seen x.text)

-- one part more

pub finals_step : {F : Type 0} (view : F → TypeName × Name) (tree : ProgramTree) (order : List ℕ) (i k : ℕ) (before next : List F) (all : List (TypeName × Name))
    → i < length order → k ≡ get_or order i 0 → map view before ++ finals_of (members_along tree (drop i order)) ≡ all
    → map view next ≡ map view before ++ finals_of (members_at tree k) → map view next ++ finals_of (members_along tree (drop (i + 1) order)) ≡ all
finals_step view tree order i k before next all within at so_far is =
    ap (λ z. z ++ finals_of (members_along tree (drop (i + 1) order))) is
    ∙ append_assoc (map view before) (finals_of (members_at tree k)) (finals_of (members_along tree (drop (i + 1) order)))
    ∙ ap (λ z. map view before ++ z) (sym (ap finals_of (parts_from tree order i k within at) ∙ finals_append (members_at tree k) (members_along tree (drop (i + 1) order))))
    ∙ so_far

none_before : {X : Type 0} (xs ys : List X) (b : Bool) → b ≡ not (has_none xs) → b ≡ false → has_none (xs ++ ys) ≡ has_none ys
none_before [] ys b is none = refl
none_before (x ∷ xs) ys b is none = absurd (let e : true ≡ false = sym is ∙ none in cc)

some_before : {X : Type 0} (xs ys : List X) (b : Bool) → b ≡ not (has_none xs) → b ≡ true → has_none (xs ++ ys) ≡ false
some_before [] ys b is some = absurd (let e : false ≡ true = sym is ∙ some in cc)
some_before (x ∷ xs) ys b is some = refl

pub no_final_step : (tree : ProgramTree) (order : List ℕ) (i k : ℕ) (b all : Bool) → i < length order → k ≡ get_or order i 0
    → has_none (finals_of (members_along tree (drop i order))) ≡ all → b ≡ not (has_none (finals_of (members_at tree k))) → b ≡ false
    → has_none (finals_of (members_along tree (drop (i + 1) order))) ≡ all
no_final_step tree order i k b all within at so_far is none =
    sym (none_before (finals_of (members_at tree k)) (finals_of (members_along tree (drop (i + 1) order))) b is none)
    ∙ ap has_none (sym (ap finals_of (parts_from tree order i k within at) ∙ finals_append (members_at tree k) (members_along tree (drop (i + 1) order))))
    ∙ so_far

pub final_found : (tree : ProgramTree) (order : List ℕ) (i k : ℕ) (b all : Bool) → i < length order → k ≡ get_or order i 0
    → has_none (finals_of (members_along tree (drop i order))) ≡ all → b ≡ not (has_none (finals_of (members_at tree k))) → b ≡ true → true ≡ not all
final_found tree order i k b all within at so_far is some =
    ap not (sym (sym so_far ∙ ap has_none (ap finals_of (parts_from tree order i k within at) ∙ finals_append (members_at tree k) (members_along tree (drop (i + 1) order)))
    ∙ some_before (finals_of (members_at tree k)) (finals_of (members_along tree (drop (i + 1) order))) b is some))

pub names_step : (tree : ProgramTree) (order : List ℕ) (i k : ℕ) (seen next all : List (List ℕ)) → i < length order → k ≡ get_or order i 0
    → distinct_after seen (field_names (members_along tree (drop i order))) ≡ all → next ≡ distinct_after seen (field_names (members_at tree k))
    → distinct_after next (field_names (members_along tree (drop (i + 1) order))) ≡ all
names_step tree order i k seen next all within at so_far is =
    ap (λ z. distinct_after z (field_names (members_along tree (drop (i + 1) order)))) is
    ∙ sym (distinct_append (field_names (members_at tree k)) (field_names (members_along tree (drop (i + 1) order))) seen)
    ∙ ap (distinct_after seen) (sym (ap field_names (parts_from tree order i k within at) ∙ field_names_append (members_at tree k) (members_along tree (drop (i + 1) order))))
    ∙ so_far

-- where the first list has no such place, the place is counted on in the second
behind : {X : Type 0} (xs ys : List X) (n : ℕ) → slice_get xs n ≡ None → slice_get (xs ++ ys) n ≡ slice_get ys (n - length xs)
behind [] ys n none = let same : n ≡ n - 0 = omega arith in ap (slice_get ys) same
behind (x ∷ xs) ys zero none = absurd (none-some x (sym none))
behind (x ∷ xs) ys (suc n) none = let same : n - length xs ≡ suc n - suc (length xs) = omega arith in behind xs ys n none ∙ ap (slice_get ys) same

pub later_field : (tree : ProgramTree) (order : List ℕ) (i k left : ℕ) (all : Option Name) → i < length order → k ≡ get_or order i 0
    → slice_get (field_names (members_along tree (drop i order))) left ≡ all → None ≡ slice_get (field_names (members_at tree k)) left
    → slice_get (field_names (members_along tree (drop (i + 1) order))) (left - length (field_names (members_at tree k))) ≡ all
later_field tree order i k left all within at so_far none =
    sym (behind (field_names (members_at tree k)) (field_names (members_along tree (drop (i + 1) order))) left (sym none))
    ∙ ap (λ ns. slice_get ns left) (sym (ap field_names (parts_from tree order i k within at) ∙ field_names_append (members_at tree k) (members_along tree (drop (i + 1) order))))
    ∙ so_far

pub field_found : (tree : ProgramTree) (order : List ℕ) (i k left : ℕ) (n : Name) (all : Option Name) → i < length order → k ≡ get_or order i 0
    → slice_get (field_names (members_along tree (drop i order))) left ≡ all → Some n ≡ slice_get (field_names (members_at tree k)) left → Some n ≡ all
field_found tree order i k left n all within at so_far some =
    sym (at_left (field_names (members_at tree k)) (field_names (members_along tree (drop (i + 1) order))) left n (sym some))
    ∙ ap (λ ns. slice_get ns left) (sym (ap field_names (parts_from tree order i k within at) ∙ field_names_append (members_at tree k) (members_along tree (drop (i + 1) order))))
    ∙ so_far

-- nothing behind a list
pub nothing_more : {A : Type 0} (xs ys : List A) → ys ≡ [] → xs ≡ xs ++ ys
nothing_more xs ys none = sym (append-nil xs) ∙ ap (λ z. xs ++ z) (sym none)

-- a number of no class
pub past : (classes : List Class) (k : ℕ) → false ≡ nat_lt k (length classes) → members_at (map class_of classes) k ≡ []
past classes k none =
    let long : length (map class_of classes) ≡ length classes = length-map classes class_of in
    let few : length classes ≤ k = ltb-false k (length classes) (sym none) in
    ap members_in (slice_get_past (map class_of classes) k (omega (arith, long, few)))
