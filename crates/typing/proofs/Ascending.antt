-- Paths put into a set from the last to the first.
use Rattle.std.proofs.Common.{◌≡◌, List, [], ◌∷◌, ◌++◌, refl, ap, ◌∙◌}
use Rattle.std.specs.declared.cmp.Ordering.{Ordering}
use Rattle.std.specs.declared.cmp.Ordering.TheVariants.{Less, Equal, Greater}
use Rattle.std.specs.Ordering.{match_ordering}
use Rattle.std.specs.BTreeSet.{insert_key}
use Rattle.paths.specs.Paths.{PathData, path_order}
use Rattle.typing.specs.Programs.{chosen_by_order, inserted}

same_choice : {A : Type 0} (r : Ordering) (a b c : A) → match_ordering r a b c ≡ chosen_by_order r a b c
same_choice Less a b c = refl
same_choice Equal a b c = refl
same_choice Greater a b c = refl

-- a set of paths takes one more as the definition says
pub insert_is : (cmp : PathData → PathData → Ordering) → ((p q : PathData) → cmp p q ≡ path_order p q) → (ks : List PathData) (p : PathData) → insert_key cmp ks p ≡ inserted p ks
insert_is cmp same [] p = refl
insert_is cmp same (q ∷ qs) p =
    ap (λ r. match_ordering r (p ∷ q ∷ qs) (q ∷ qs) (q ∷ insert_key cmp qs p)) (same p q)
    ∙ ap (λ z. match_ordering (path_order p q) (p ∷ q ∷ qs) (q ∷ qs) (q ∷ z)) (insert_is cmp same qs p)
    ∙ same_choice (path_order p q) (p ∷ q ∷ qs) (q ∷ qs) (q ∷ inserted p qs)

-- these paths put into an ascending list, the last of them first
abbrev pub inserted_all : List PathData → List PathData → List PathData
inserted_all ks [] = ks
inserted_all ks (p ∷ ps) = inserted p (inserted_all ks ps)

pub inserted_last : (ks ps : List PathData) (p : PathData) → inserted_all ks (ps ++ p ∷ []) ≡ inserted_all (inserted p ks) ps
inserted_last ks [] p = refl
inserted_last ks (q ∷ ps) p = ap (inserted q) (inserted_last ks ps p)
