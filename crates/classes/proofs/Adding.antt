-- Parts of a table, class by class.
use Rattle.std.proofs.Common.{◌≡◌, ℕ, suc, ◌+◌, ◌<◌, List, [], ◌∷◌, length, Option, map, drop, get_or, ap, sym, ◌∙◌, arith}
use Rattle.std.proofs.Math.Seq.{drop-cons}
use Rattle.syntax.specs.declared.tree.Class.{Class}
use Rattle.syntax.specs.Trees.{ProgramTree}
use Rattle.syntax.specs.Views.{class_of}
use Rattle.classes.specs.declared.own.OwnNames.{OwnNames}
use Rattle.classes.specs.Own.{all_own_names}
use Rattle.classes.specs.Building.{PartsData, with_class, with_classes}

abbrev tail_of : {A : Type 0} → List A → List A
tail_of [] = []
tail_of (y ∷ ys) = ys

-- the own names that are left, behind those of the next class, are those of the others
pub own_left : (left more : List OwnNames) (own : OwnNames) (rest others : List Class) (class : Class) → rest ≡ class ∷ others → left ≡ own ∷ more → left ≡ all_own_names (map class_of rest)
    → more ≡ all_own_names (map class_of others)
own_left left more own rest others class split next theirs = ap tail_of (sym next ∙ theirs ∙ ap (λ z. all_own_names (map class_of z)) split)

-- the next class and those behind it
pub class_next : (classes : List Class) (i : ℕ) (class : Class) → i < length classes → class ≡ get_or classes i class → drop i classes ≡ class ∷ drop (i + 1) classes
class_next classes i class within at =
    let next_is : suc i ≡ i + 1 = omega arith in
    drop-cons classes i class within ∙ ap (λ z. z ∷ drop (suc i) classes) (sym at) ∙ ap (λ n. class ∷ drop n classes) next_is

-- the parts with one class more
pub one_added : (tree : ProgramTree) (aboves : List (Option ℕ)) (names : List (List ℕ)) (rest others : List Class) (class : Class) (before after whole : PartsData)
    → rest ≡ class ∷ others → with_classes tree aboves names before (map class_of rest) ≡ whole
    → after ≡ with_class tree aboves names (class_of class) before → with_classes tree aboves names after (map class_of others) ≡ whole
one_added tree aboves names rest others class before after whole split so_far is =
    ap (λ p. with_classes tree aboves names p (map class_of others)) is
    ∙ ap (λ z. with_classes tree aboves names before (map class_of z)) (sym split)
    ∙ so_far
