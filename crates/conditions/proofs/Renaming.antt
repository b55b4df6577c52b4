-- Renamings that are kept, and the one that changes nothing.
use Rattle.std.proofs.Common.{◌≡◌, ◌==◌, ◌&&◌, ℕ, nat_eq, ◌<◌, Bool, true, false, List, [], ◌∷◌, Option, Some, None, IfSome, length, refl, sym, ap, subst, arith, eqb-true}
use Rattle.std.specs.Cmp.{first_so, second_so}
use Rattle.std.specs.Cmp.Lexicographic.{pointwise}
use Rattle.std.specs.Option.{option_eq}
use Rattle.std.specs.Map.{lookup}
use Rattle.indexmap.specs.IndexMap.{insert_entry}
use Rattle.paths.specs.Paths.{PathData, path_eq}
use Rattle.paths.proofs.PathOrder.{eq_is}
use Rattle.conditions.specs.Operations.{rename_tree}
use Rattle.conditions.proofs.RenameLemmas.{rename-is}
use Rattle.conditions.proofs.SameValues.{unique}
use Rattle.conditions.specs.declared.rows.Item.{Item}
use Rattle.conditions.specs.declared.calls.Renamed.{Renamed}
use Rattle.conditions.specs.contracts.calls.RenamedPartialEq.TheImpl as keys
use Rattle.conditions.specs.Nodes.{tree_at, IsTable, KeepsTrees, StandsForTree}
use Rattle.conditions.specs.NodeCalls.{IsRenamed, AreRenamed, AreRenamings}
use Rattle.conditions.proofs.Memo.{kept_on, kept_put, kept_found, stands_on}

abbrev pub same : Renamed → Renamed → Bool
same = keys.eq-value.it

path_or_none : (o p : Option PathData) → option_eq path_eq o p ≡ true → o ≡ p
path_or_none None None told = refl
path_or_none None (Some q) told = absurd (let h : false ≡ true = told in cc)
path_or_none (Some p) None told = absurd (let h : false ≡ true = told in cc)
path_or_none (Some p) (Some q) told = ap Some (eq_is p q told)

abbrev pair_eq : PathData × Option PathData → PathData × Option PathData → Bool
pair_eq a b = path_eq a.0 b.0 && option_eq path_eq a.1 b.1

pairs_are : (ps qs : List (PathData × Option PathData)) → pointwise pair_eq ps qs ≡ true → ps ≡ qs
pairs_are [] [] told = refl
pairs_are [] (q ∷ qs) told = absurd (let h : false ≡ true = told in cc)
pairs_are (p ∷ ps) [] told = absurd (let h : false ≡ true = told in cc)
pairs_are (p ∷ ps) (q ∷ qs) told =
    let first = first_so (pair_eq p q) (pointwise pair_eq ps qs) told in
    let path = eq_is p.0 q.0 (first_so (path_eq p.0 q.0) (option_eq path_eq p.1 q.1) first) in
    let partner = path_or_none p.1 q.1 (second_so (path_eq p.0 q.0) (option_eq path_eq p.1 q.1) first) in
    let rest = pairs_are ps qs (second_so (pair_eq p q) (pointwise pair_eq ps qs) told) in
    λ i. (path i, partner i) ∷ rest i

-- the derived test of equality is exact
renamed_is : (x y : Renamed) → same x y ≡ true → (x.pairs.items ≡ y.pairs.items) × (x.node ≡ y.node)
renamed_is x y told =
    let pairs = pointwise pair_eq x.pairs.items y.pairs.items in
    (pairs_are x.pairs.items y.pairs.items (first_so pairs (x.node == y.node) told), eqb-true _ _ (second_so pairs (x.node == y.node) told))

-- no pairs change nothing
pub unnamed : (is : List Item) (pairs : List (PathData × Option PathData)) (n : ℕ) → IsTable is → n < length is → pairs ≡ [] → StandsForTree is n (rename_tree pairs (tree_at is n))
unnamed is pairs n table there none =
    let canonical = table.canonical n there in
    let same = rename-is [] (tree_at is n) canonical in
    subst (λ ps. StandsForTree is n (rename_tree ps (tree_at is n))) (sym none)
    record { there = there; tree = unique (tree_at is n) (rename_tree [] (tree_at is n)) canonical same.canonical (λ H. sym (same.same H)) }

renaming_on : (old new : List Item) (pairs : List (PathData × Option PathData)) (n r : ℕ) → KeepsTrees old new → IsRenamed old pairs n r → IsRenamed new pairs n r
renaming_on old new pairs n r grows is = record {
  there = omega (arith, grows.longer, is.there);
  stands = subst (λ t. StandsForTree new r (rename_tree pairs t)) (sym (grows.same n is.there)) (stands_on old new r (rename_tree pairs (tree_at old n)) grows is.stands);
}

pub renamed_on : (old new : List Item) (pairs : List (PathData × Option PathData)) (es : List (ℕ × ℕ)) → KeepsTrees old new → AreRenamed old pairs es → AreRenamed new pairs es
renamed_on old new pairs es grows are = kept_on (IsRenamed old pairs) (IsRenamed new pairs) es (λ n r. renaming_on old new pairs n r grows) are

pub renamings_on : (old new : List Item) (es : List (Renamed × ℕ)) → KeepsTrees old new → AreRenamings old es → AreRenamings new es
renamings_on old new es grows are =
    kept_on (λ x. IsRenamed old x.pairs.items x.node) (λ x. IsRenamed new x.pairs.items x.node) es (λ x r. renaming_on old new x.pairs.items x.node r grows) are

-- what holds of one key holds of an equal one
renamed_so : (is : List Item) (x y : Renamed) (n : ℕ) → same x y ≡ true → IsRenamed is x.pairs.items x.node n → IsRenamed is y.pairs.items y.node n
renamed_so is x y n told holds =
    let e = renamed_is x y told in
    subst (λ pairs. IsRenamed is pairs y.node n) e.0 (subst (λ m. IsRenamed is x.pairs.items m n) e.1 holds)

renamed_back : (is : List Item) (x y : Renamed) (n : ℕ) → same x y ≡ true → IsRenamed is y.pairs.items y.node n → IsRenamed is x.pairs.items x.node n
renamed_back is x y n told holds =
    let e = renamed_is x y told in
    subst (λ pairs. IsRenamed is pairs x.node n) (sym e.0) (subst (λ m. IsRenamed is y.pairs.items m n) (sym e.1) holds)

pub renamings_put : (is : List Item) (es : List (Renamed × ℕ)) (x : Renamed) (n : ℕ) → AreRenamings is es → IsRenamed is x.pairs.items x.node n → AreRenamings is (insert_entry same es x n)
renamings_put is es x n are result =
    kept_put same (λ y. IsRenamed is y.pairs.items y.node) (renamed_so is) es x n are result

pub renaming_found : (is now : List Item) (es : List (Renamed × ℕ)) (x : Renamed) (o : Option ℕ) → is ≡ now → AreRenamings is es → o ≡ lookup (same x) es → IfSome o (λ n. IsRenamed now x.pairs.items x.node n)
renaming_found is now es x o view are told =
    subst (λ k. IfSome o (λ n. IsRenamed k x.pairs.items x.node n)) view (subst (λ p. IfSome p (λ n. IsRenamed is x.pairs.items x.node n)) (sym told)
    (kept_found same (λ y. IsRenamed is y.pairs.items y.node) (renamed_back is) es x are))

-- what holds of one number holds of an equal one
number_so : (Is : ℕ → ℕ → Type 0) (m n r : ℕ) → nat_eq m n ≡ true → Is m r → Is n r
number_so Is m n r told = subst (λ k. Is k r) (eqb-true m n told)

number_back : (Is : ℕ → ℕ → Type 0) (m n r : ℕ) → nat_eq m n ≡ true → Is n r → Is m r
number_back Is m n r told = subst (λ k. Is k r) (sym (eqb-true m n told))

pub renamed_put : (is : List Item) (pairs : List (PathData × Option PathData)) (es : List (ℕ × ℕ)) (n r : ℕ) → AreRenamed is pairs es → n < length is → StandsForTree is r (rename_tree pairs (tree_at is n))
    → AreRenamed is pairs (insert_entry nat_eq es n r)
renamed_put is pairs es n r are there stands = kept_put nat_eq (IsRenamed is pairs) (number_so (IsRenamed is pairs)) es n r are record { there = there; stands = stands }

pub renamed_found : (is : List Item) (pairs : List (PathData × Option PathData)) (es : List (ℕ × ℕ)) (n : ℕ) (o : Option ℕ) → AreRenamed is pairs es → o ≡ lookup (nat_eq n) es
    → IfSome o (λ r. StandsForTree is r (rename_tree pairs (tree_at is n)))
renamed_found is pairs es n o are told =
    subst (λ p. IfSome p (λ r. StandsForTree is r (rename_tree pairs (tree_at is n)))) (sym told)
    (only_stands (lookup (nat_eq n) es) (kept_found nat_eq (IsRenamed is pairs) (number_back (IsRenamed is pairs)) es n are))
  where
    only_stands : (p : Option ℕ) → IfSome p (IsRenamed is pairs n) → IfSome p (λ r. StandsForTree is r (rename_tree pairs (tree_at is n)))
    only_stands None found = tt
    only_stands (Some r) found = found.stands
