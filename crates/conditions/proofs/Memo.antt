-- Results that are kept: they stay right while the list grows, and the one that is found is that of the call.
use Rattle.std.proofs.Common.{◌≡◌, ◌==◌, ◌&&◌, cond, ℕ, Bool, true, false, List, [], ◌∷◌, Option, Some, None, IfSome, zero, suc, slice_get, refl, sym, ◌∙◌, ap, subst, arith, eqb-true, if◌then◌else◌}
use Rattle.std.specs.Cmp.{first_so, second_so}
use Rattle.indexmap.specs.IndexMap.{insert_entry}
use Rattle.std.specs.Map.{lookup}
use Rattle.std.proofs.lemmas.Option.{same_Some}
use Rattle.paths.specs.Paths.{path_eq}
use Rattle.paths.proofs.PathOrder.{eq_is}
use Rattle.conditions.specs.Conditions.{Cond}
use Rattle.conditions.specs.Operations.{each_leaf, both_leaves, sync_tree, hold}
use Rattle.conditions.specs.declared.rows.Item.{Item}
use Rattle.conditions.specs.declared.calls.Single.{Single}
use Rattle.conditions.specs.declared.calls.Single.TheVariants.{Star, Lift}
use Rattle.conditions.specs.declared.calls.Pair.{Pair}
use Rattle.conditions.specs.declared.calls.Pair.TheVariants.{Seq, Join}
use Rattle.conditions.specs.declared.calls.Call.{Call}
use Rattle.conditions.specs.declared.calls.Call.TheVariants.{Each, Both, HeldOr, Sync}
use Rattle.conditions.specs.contracts.calls.SinglePartialEq.TheImpl as singles
use Rattle.conditions.specs.contracts.calls.PairPartialEq.TheImpl as pairs
use Rattle.conditions.specs.contracts.calls.CallPartialEq.TheImpl as calls
use Rattle.conditions.specs.Nodes.{KeepsTrees, StandsForTree}
use Rattle.conditions.specs.NodeCalls.{single_of, pair_of, call_tree, AreOperandsThere, IsResult, AreKept, AreResults}

abbrev pub same : Call → Call → Bool
same = calls.eq-value.it

single_is : (f g : Single) → singles.eq-value.it f g ≡ true → f ≡ g
single_is Star Star told = refl
single_is Lift Lift told = refl
single_is Star Lift told = absurd (let h : false ≡ true = told in cc)
single_is Lift Star told = absurd (let h : false ≡ true = told in cc)

pair_is : (f g : Pair) → pairs.eq-value.it f g ≡ true → f ≡ g
pair_is Seq Seq told = refl
pair_is Join Join told = refl
pair_is Seq Join told = absurd (let h : false ≡ true = told in cc)
pair_is Join Seq told = absurd (let h : false ≡ true = told in cc)

-- the derived test of equality is exact
pub call_is : (x y : Call) → same x y ≡ true → x ≡ y
call_is (Each f n) (Each g m) told =
    let first = single_is f g (first_so (singles.eq-value.it f g) (n == m) told) in
    let second = eqb-true _ _ (second_so (singles.eq-value.it f g) (n == m) told) in
    λ i. Each (first i) (second i)
call_is (Both f a b) (Both g c d) told =
    let first = pair_is f g (first_so (pairs.eq-value.it f g) ((a == c) && (b == d)) told) in
    let rest = second_so (pairs.eq-value.it f g) ((a == c) && (b == d)) told in
    let second = eqb-true _ _ (first_so (a == c) (b == d) rest) in
    let third = eqb-true _ _ (second_so (a == c) (b == d) rest) in
    λ i. Both (first i) (second i) (third i)
call_is (HeldOr p a b) (HeldOr q c d) told =
    let first = eq_is p q (first_so (path_eq p q) ((a == c) && (b == d)) told) in
    let rest = second_so (path_eq p q) ((a == c) && (b == d)) told in
    let second = eqb-true _ _ (first_so (a == c) (b == d) rest) in
    let third = eqb-true _ _ (second_so (a == c) (b == d) rest) in
    λ i. HeldOr (first i) (second i) (third i)
call_is (Sync p n) (Sync q m) told =
    let first = eq_is p q (first_so (path_eq p q) (n == m) told) in
    let second = eqb-true _ _ (second_so (path_eq p q) (n == m) told) in
    λ i. Sync (first i) (second i)
call_is (Each f n) (Both g c d) told = absurd (let h : false ≡ true = told in cc)
call_is (Each f n) (HeldOr q c d) told = absurd (let h : false ≡ true = told in cc)
call_is (Each f n) (Sync q m) told = absurd (let h : false ≡ true = told in cc)
call_is (Both f a b) (Each g m) told = absurd (let h : false ≡ true = told in cc)
call_is (Both f a b) (HeldOr q c d) told = absurd (let h : false ≡ true = told in cc)
call_is (Both f a b) (Sync q m) told = absurd (let h : false ≡ true = told in cc)
call_is (HeldOr p a b) (Each g m) told = absurd (let h : false ≡ true = told in cc)
call_is (HeldOr p a b) (Both g c d) told = absurd (let h : false ≡ true = told in cc)
call_is (HeldOr p a b) (Sync q m) told = absurd (let h : false ≡ true = told in cc)
call_is (Sync p n) (Each g m) told = absurd (let h : false ≡ true = told in cc)
call_is (Sync p n) (Both g c d) told = absurd (let h : false ≡ true = told in cc)
call_is (Sync p n) (HeldOr q c d) told = absurd (let h : false ≡ true = told in cc)

-- what holds of each key and its number still does where it holds of all under another name
pub kept_on : {K : Type 0} (Was Is : K → ℕ → Type 0) (es : List (K × ℕ)) → ((k : K) (n : ℕ) → Was k n → Is k n) → AreKept Was es → AreKept Is es
kept_on Was Is [] so are = tt
kept_on Was Is (e ∷ es) so are = (so e.0 e.1 are.0, kept_on Was Is es so are.1)

module _ {K : Type 0} (test : K → K → Bool) (Is : K → ℕ → Type 0) where
  pub kept_put : ((x y : K) (n : ℕ) → test x y ≡ true → Is x n → Is y n) → (es : List (K × ℕ)) (x : K) (n : ℕ) → AreKept Is es → Is x n → AreKept Is (insert_entry test es x n)
  kept_put so [] x n are is = (is, tt)
  kept_put so (e ∷ es) x n are is =
      elim (test x e.0) as (λ b. test x e.0 ≡ b → AreKept Is (if b then (e.0, n) ∷ es else e ∷ insert_entry test es x n)) [
        | true ↦ λ told. (so x e.0 n told is, are.1)
        | false ↦ λ told. (are.0, kept_put so es x n are.1 is)
      ] refl

  pub kept_found : ((x y : K) (n : ℕ) → test x y ≡ true → Is y n → Is x n) → (es : List (K × ℕ)) (x : K) → AreKept Is es → IfSome (lookup (test x) es) (Is x)
  kept_found so [] x are = tt
  kept_found so (e ∷ es) x are =
      elim (test x e.0) as (λ b. test x e.0 ≡ b → IfSome (cond b (Some e.1) (lookup (test x) es)) (Is x)) [
        | true ↦ λ told. so x e.0 e.1 told are.0
        | false ↦ λ told. kept_found so es x are.1
      ] refl

-- a call whose operands are there gives the same tree in a longer list
pub call_on : (old new : List Item) (x : Call) → KeepsTrees old new → AreOperandsThere old x → call_tree new x ≡ call_tree old x
call_on old new (Each f n) grows there = ap (each_leaf (single_of f)) (grows.same n there)
call_on old new (Both f a b) grows there = let first = grows.same a there.0 in let second = grows.same b there.1 in λ i. both_leaves (pair_of f) (first i) (second i)
call_on old new (HeldOr p a b) grows there = let first = grows.same a there.0 in let second = grows.same b there.1 in λ i. hold p (first i) (second i)
call_on old new (Sync p n) grows there = ap (sync_tree p) (grows.same n there)

pub there_on : (old new : List Item) (x : Call) → KeepsTrees old new → AreOperandsThere old x → AreOperandsThere new x
there_on old new (Each f n) grows there = omega (arith, grows.longer, there)
there_on old new (Both f a b) grows there = (omega (arith, grows.longer, there.0), omega (arith, grows.longer, there.1))
there_on old new (HeldOr p a b) grows there = (omega (arith, grows.longer, there.0), omega (arith, grows.longer, there.1))
there_on old new (Sync p n) grows there = omega (arith, grows.longer, there)

pub stands_on : (old new : List Item) (n : ℕ) (t : Cond) → KeepsTrees old new → StandsForTree old n t → StandsForTree new n t
stands_on old new n t grows stands = record { there = omega (arith, grows.longer, stands.there); tree = grows.same n stands.there ∙ stands.tree }

pub result_on : (old new : List Item) (x : Call) (n : ℕ) → KeepsTrees old new → IsResult old x n → IsResult new x n
result_on old new x n grows is = record {
  there = there_on old new x grows is.there;
  stands = subst (StandsForTree new n) (sym (call_on old new x grows is.there)) (stands_on old new n (call_tree old x) grows is.stands);
}

pub results_on : (old new : List Item) (es : List (Call × ℕ)) → KeepsTrees old new → AreResults old es → AreResults new es
results_on old new es grows are = kept_on (IsResult old) (IsResult new) es (λ x n. result_on old new x n grows) are

pub results_put : (is : List Item) (es : List (Call × ℕ)) (x : Call) (n : ℕ) → AreResults is es → IsResult is x n → AreResults is (insert_entry same es x n)
results_put is es x n are result = kept_put same (IsResult is) (λ y z m told. subst (λ w. IsResult is w m) (call_is y z told)) es x n are result

found : (is : List Item) (es : List (Call × ℕ)) (x : Call) → AreResults is es → IfSome (lookup (same x) es) (λ n. IsResult is x n)
found is es x are = kept_found same (IsResult is) (λ y z m told. subst (λ w. IsResult is w m) (sym (call_is y z told))) es x are

pub remembered : (is now : List Item) (es : List (Call × ℕ)) (x : Call) (o : Option ℕ) → is ≡ now → AreResults is es → o ≡ lookup (same x) es → IfSome o (λ n. IsResult now x n)
remembered is now es x o view are told = subst (λ k. IfSome o (λ n. IsResult k x n)) view (subst (λ p. IfSome p (λ n. IsResult is x n)) (sym told) (found is es x are))

kept_at : {K : Type 0} (Is : K → ℕ → Type 0) (es : List (K × ℕ)) (x : K) (n at : ℕ) → AreKept Is es → slice_get es at ≡ Some (x, n) → Is x n
kept_at Is [] x n at are told = absurd (let h : None ≡ Some (x, n) = told in cc)
kept_at Is (e ∷ es) x n zero are told = subst (λ (p : _ × ℕ). Is p.0 p.1) (same_Some e (x, n) told) are.0
kept_at Is (e ∷ es) x n (suc at) are told = kept_at Is es x n at are.1 told

-- the result that a hint tells
pub hinted : (is now : List Item) (es : List (Call × ℕ)) (x y : Call) (n at : ℕ) → is ≡ now → AreResults is es → slice_get es at ≡ Some (y, n) → same y x ≡ true → IsResult now x n
hinted is now es x y n at view are told test =
    subst (λ k. IsResult k x n) view (subst (λ w. IsResult is w n) (call_is y x test) (kept_at (IsResult is) es y n at are told))

-- the same of a call of two basics, told by its parts
pub hinted_both : (is now : List Item) (es : List (Call × ℕ)) (x : Call) (f g : Pair) (m n a b r at : ℕ) → is ≡ now → AreResults is es → slice_get es at ≡ Some (x, r) → x ≡ Both g a b
    → pairs.eq-value.it g f ≡ true → a ≡ m → b ≡ n → IsResult now (Both f m n) r
hinted_both is now es x f g m n a b r at view are told x_is test a_is b_is =
    let first = pair_is g f test in
    subst (λ k. IsResult k (Both f m n) r) view (subst (λ w. IsResult is w r) (x_is ∙ (λ i. Both (first i) (a_is i) (b_is i))) (kept_at (IsResult is) es x r at are told))
