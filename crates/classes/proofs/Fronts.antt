-- A front of the names of the classes.
use Rattle.std.proofs.Common.{◌≡◌, ◌⊎◌, inl, inr, ℕ, ◌+◌, ◌<◌, Bool, true, false, List, [], ◌∷◌, ◌++◌, length, map, drop, get_or, append_assoc, append-nil, sym, ap, ◌∙◌, Result, Ok, Err, OnErr, if◌then◌else◌}
use Rattle.base.proofs.Lists.{next_drop}
use Rattle.syntax.specs.declared.tree.Class.{Class}
use Rattle.syntax.specs.declared.tree.Name.{Name}
use Rattle.syntax.specs.Views.{class_of}
use Rattle.classes.specs.Members.{class_names}
use Rattle.classes.specs.Names.{has_text, with_text, distinct_after}

-- a list is a front of another
abbrev IsFront : (xs ys : List (List ℕ)) → Type 0
IsFront xs ys = (more : List (List ℕ)) × (ys ≡ xs ++ more)

one_more : (seen ys : List (List ℕ)) (text : List ℕ) (b : Bool) → IsFront (if b then seen else seen ++ text ∷ []) ys → IsFront seen ys
one_more seen ys text true front = front
one_more seen ys text false front = (text ∷ front.0, front.1 ∙ append_assoc seen (text ∷ []) front.0)

-- names are added behind what is there
pub added_behind : (seen : List (List ℕ)) (names : List Name) → (more : List (List ℕ)) × (distinct_after seen names ≡ seen ++ more)
added_behind seen [] = ([], sym (append-nil seen))
added_behind seen (n ∷ ns) = one_more seen (distinct_after (with_text seen n.text) ns) n.text (has_text seen n.text) (added_behind (with_text seen n.text) ns)

front_same : (classes : List Class) (k : ℕ) (old new all : List (List ℕ)) → distinct_after old (class_names (map class_of (drop k classes))) ≡ all → new ≡ old → IsFront new all
front_same classes k old new all whole same = let p = added_behind old (class_names (map class_of (drop k classes))) in (p.0, sym whole ∙ p.1 ∙ ap (λ xs. xs ++ p.0) (sym same))

front_more : (classes : List Class) (k : ℕ) (c : Class) (old new all : List (List ℕ)) → distinct_after old (class_names (map class_of (drop k classes))) ≡ all → k < length classes → c ≡ get_or classes k c
    → new ≡ with_text old (class_of c).name.text → IsFront new all
front_more classes k c old new all whole within is more =
    front_same classes (k + 1) (with_text old (class_of c).name.text) new all (sym (ap (λ cs. distinct_after old (class_names (map class_of cs))) (next_drop classes k c within is)) ∙ whole) more

-- a front of the names, whether the next class's was added or not
pub front_kept : {T E : Type 0} (r : Result T E) (classes : List Class) (k : ℕ) (c : Class) (old new all : List (List ℕ)) → distinct_after old (class_names (map class_of (drop k classes))) ≡ all
    → k < length classes → c ≡ get_or classes k c → (new ≡ old) ⊎ (new ≡ with_text old (class_of c).name.text) → OnErr r ((more : List (List ℕ)) × (all ≡ new ++ more))
front_kept (Ok x) classes k c old new all whole within is kept = tt
front_kept (Err e) classes k c old new all whole within is (inl same) = front_same classes k old new all whole same
front_kept (Err e) classes k c old new all whole within is (inr more) = front_more classes k c old new all whole within is more
