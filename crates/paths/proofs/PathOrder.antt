-- The order of paths is total, and the test of equality is exact.
use Rattle.std.proofs.Common.{◌≡◌, ◌≢◌, ◌++◌, ◌∷◌, ℕ, List, [], true, false, refl, sym, ◌∙◌, ap, subst}
use Rattle.std.specs.declared.cmp.Ordering.TheVariants.{Less, Equal, Greater}
use Rattle.std.specs.Ordering.{nat_cmp, ordering_then, ordering_reverse}
use Rattle.std.specs.Cmp.Lexicographic.{slice_cmp}
use Rattle.std.proofs.lemmas.Cmp.{nat_list_cmp_total, nat_cmp_total, tied_itself}
use Rattle.std.proofs.lemmas.Map.Lookups.{exact_bytes}
use Rattle.std.proofs.lemmas.Slice.Eq.{bytes_eq-Decides}
use Rattle.std.proofs.lemmas.Bool.{false_from_ne_true}
use Rattle.paths.specs.Paths.{PathData, path_order, path_eq}

-- a path as one list
key : PathData → List ℕ
key p = p.root ∷ p.fields

path_of_key : List ℕ → PathData
path_of_key [] = record { root = 0; fields = [] }
path_of_key (root ∷ fields) = record { root = root; fields = fields }

pub equal_is : (p q : PathData) → path_order p q ≡ Equal → p ≡ q
unfolding key path_of_key
equal_is p q e = ap path_of_key (exact_bytes (key p) (key q) e)

pub order_itself : (p : PathData) → path_order p p ≡ Equal
unfolding key
order_itself p = tied_itself nat_list_cmp_total (key p)

pub never_less : (p : PathData) → path_order p p ≡ Less → ⊥
never_less p less = let e : Less ≡ Equal = sym less ∙ order_itself p in absurd cc

pub is_equal : (p q : PathData) → p ≡ q → path_order p q ≡ Equal
is_equal p q e = subst (λ x. path_order p x ≡ Equal) e (order_itself p)

turned_back : (p q : PathData) → path_order p q ≡ ordering_reverse (path_order q p)
unfolding key
turned_back p q = nat_list_cmp_total.antisymm (key p) (key q)

pub greater_turned : (p q : PathData) → path_order p q ≡ Greater → path_order q p ≡ Less
greater_turned p q e = turned_back q p ∙ ap ordering_reverse e

pub less_turned : (p q : PathData) → path_order p q ≡ Less → path_order q p ≡ Greater
less_turned p q e = turned_back q p ∙ ap ordering_reverse e

pub less_chain : (p q r : PathData) → path_order p q ≡ Less → path_order q r ≡ Less → path_order p r ≡ Less
unfolding key
less_chain p q r first second = nat_list_cmp_total.trans (key p) (key q) (key r) first second

prefix_first : (xs ys : List ℕ) → ys ≢ [] → slice_cmp nat_cmp xs (xs ++ ys) ≡ Less
prefix_first [] [] some = absurd (some refl)
prefix_first [] (y ∷ ys) some = refl
prefix_first (x ∷ xs) ys some = ap (λ o. ordering_then o (slice_cmp nat_cmp xs (xs ++ ys))) (tied_itself nat_cmp_total x) ∙ prefix_first xs ys some

pub prefix_is_less : (p : PathData) (more : List ℕ) → more ≢ [] → path_order p (record p { fields = p.fields ++ more }) ≡ Less
prefix_is_less p more some = prefix_first (p.root ∷ p.fields) more some

pub eq_is : (p q : PathData) → path_eq p q ≡ true → p ≡ q
unfolding key path_of_key
eq_is p q e = ap path_of_key ((bytes_eq-Decides (key p) (key q)).0 e)

pub eq_itself : (p : PathData) → path_eq p p ≡ true
unfolding key
eq_itself p = (bytes_eq-Decides (key p) (key p)).1 refl

pub is_eq : (p q : PathData) → p ≡ q → path_eq p q ≡ true
is_eq p q e = subst (λ x. path_eq p x ≡ true) e (eq_itself p)

pub less_not_eq : (p q : PathData) → path_order p q ≡ Less → path_eq p q ≡ false
less_not_eq p q less = false_from_ne_true (path_eq p q) (λ e. let k : Less ≡ Equal = sym less ∙ is_equal p q (eq_is p q e) in absurd cc)
