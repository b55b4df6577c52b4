-- One step of an operation on numbers: from the parts to the whole.
use Rattle.std.proofs.Common.{◌≡◌, ℕ, ◌<◌, true, false, List, length, Result, IfOk, Some, None, refl, sym, ◌∙◌, ap, subst, arith, if◌then◌else◌}
use Rattle.paths.specs.Paths.{PathData, path_order}
use Rattle.algebra.specs.declared.basic.Basic.{Basic}
use Rattle.algebra.specs.declared.basic.Basic.TheVariants.{Const, Mover, Atomic, Cmpd, Error}
use Rattle.algebra.specs.Basics.{lift_of}
use Rattle.conditions.specs.Conditions.{Cond, LeafC, TestC, cond_eq, IsCanonical}
use Rattle.conditions.specs.Operations.{node, each_leaf, both_leaves, sync_tree, hold, by_order}
use Rattle.conditions.proofs.CondLemmas.{cond_eq-is}
use Rattle.conditions.specs.declared.rows.Item.{Item}
use Rattle.conditions.specs.declared.rows.Item.TheVariants.{Test}
use Rattle.std.specs.declared.cmp.Ordering.{Ordering}
use Rattle.std.specs.declared.cmp.Ordering.TheVariants.{Less, Equal, Greater}
use Rattle.conditions.proofs.LeafLemmas.{each-is, both-is}
use Rattle.conditions.proofs.HoldLemmas.{hold-is}
use Rattle.conditions.proofs.SyncLemmas.{sync-is}
use Rattle.conditions.specs.declared.calls.Single.{Single}
use Rattle.conditions.specs.declared.calls.Pair.{Pair}
use Rattle.conditions.specs.declared.calls.Pair.TheVariants.{Seq, Join}
use Rattle.conditions.specs.declared.calls.Call.{Call}
use Rattle.conditions.specs.declared.calls.Call.TheVariants.{Each, Both, HeldOr, Sync}
use Rattle.conditions.specs.Nodes.{tree_at, item_tree, AreBefore, IsTable, KeepsTrees, StandsForTree}
use Rattle.conditions.specs.Halving.{Halves, halves_of, AreHalves}
use Rattle.conditions.specs.NodeCalls.{single_of, pair_of, call_tree, AreOperandsThere, IsCombined}
use Rattle.conditions.proofs.Tables.{grows_chain}
use Rattle.conditions.proofs.Memo.{call_on, there_on, stands_on}

-- a call from its two parts, which were found one after the other
combined : (old mid new : List Item) (x : Call) (p : PathData) (m n : ℕ) (t u : Cond) → AreOperandsThere old x → IsCanonical (call_tree old x) → call_tree old x ≡ node p t u
    → KeepsTrees old mid → StandsForTree mid m t → KeepsTrees mid new → StandsForTree new n u → IsCombined new x p m n
combined old mid new x p m n t u there canonical tree first m_is second n_is =
    let all = grows_chain old mid new first second in
    let same = call_on old new x all there in
    let held = stands_on mid new m t second m_is in
    record {
      there = there_on old new x all there;
      held_there = held.there;
      free_there = n_is.there;
      canonical = subst IsCanonical (sym same) canonical;
      tree = same ∙ tree ∙ (λ i. node p (sym held.tree i) (sym n_is.tree i));
    }

pub each_combined : (old mid new : List Item) (f : Single) (p : PathData) (n a b x y : ℕ) → IsTable old → n < length old → tree_at old n ≡ item_tree old (Test p a b) → AreBefore n (Test p a b)
    → KeepsTrees old mid → StandsForTree mid x (each_leaf (single_of f) (tree_at old a)) → KeepsTrees mid new → StandsForTree new y (each_leaf (single_of f) (tree_at mid b)) → IsCombined new (Each f n) p x y
each_combined old mid new f p n a b x y table there tree parts first x_is second y_is =
    let g = single_of f in
    combined old mid new (Each f n) p x y (each_leaf g (tree_at old a)) (each_leaf g (tree_at old b)) there
    (each-is g (tree_at old n) (table.canonical n there)).canonical (ap (each_leaf g) tree) first x_is second
    (subst (λ t. StandsForTree new y (each_leaf g t)) (first.same b (omega (arith, parts.1, there))) y_is)

same_halves : (h k : Halves) → Some h ≡ Some k → h ≡ k
same_halves h k e = cc

by_halves : {X : Type 0} (put : Halves → X) (o : Ordering) (h k l m : Halves) → by_order o (Some h) (Some k) (Some l) ≡ Some m → by_order o (put h) (put k) (put l) ≡ put m
by_halves put Less h k l m e = ap put (same_halves h m e)
by_halves put Equal h k l m e = ap put (same_halves k m e)
by_halves put Greater h k l m e = ap put (same_halves l m e)

abbrev put_both : (Basic → Basic → Basic) → Halves → Cond
put_both f h = node h.path (both_leaves f h.first_held h.second_held) (both_leaves f h.first_free h.second_free)

-- a call on two trees, by their halves
both_halves : (f : Basic → Basic → Basic) (t u : Cond) (h : Halves) → halves_of t u ≡ Some h → both_leaves f t u ≡ put_both f h
both_halves f (LeafC x) (LeafC y) h e = absurd (let no_halves : None ≡ Some h = e in cc)
both_halves f (LeafC x) (TestC q c d) h e = ap (put_both f) (same_halves _ h e)
both_halves f (TestC p a b) (LeafC y) h e = ap (put_both f) (same_halves _ h e)
both_halves f (TestC p a b) (TestC q c d) h e = by_halves (put_both f) (path_order p q) _ _ _ h e

abbrev put_hold : PathData → Cond → Cond → Halves → Cond
put_hold p t u h = by_order (path_order p h.path) (node p t u) (node p h.first_held h.second_free)
    (node h.path (hold p h.first_held h.second_held) (hold p h.first_free h.second_free))

-- the choice between two trees, by their halves
hold_halves : (p : PathData) (t u : Cond) (h : Halves) → halves_of t u ≡ Some h → hold p t u ≡ put_hold p t u h
hold_halves p (LeafC x) (LeafC y) h e = absurd (let no_halves : None ≡ Some h = e in cc)
hold_halves p (LeafC x) (TestC r c d) h e = ap (put_hold p (LeafC x) (TestC r c d)) (same_halves _ h e)
hold_halves p (TestC q a b) (LeafC y) h e = ap (put_hold p (TestC q a b) (LeafC y)) (same_halves _ h e)
hold_halves p (TestC q a b) (TestC r c d) h e = by_halves (put_hold p (TestC q a b) (TestC r c d)) (path_order q r) _ _ _ h e

pub both_combined : (old mid new : List Item) (f : Pair) (p : PathData) (m n a b c d x y : ℕ) → IsTable old → m < length old → n < length old → AreHalves old m n p a b c d
    → KeepsTrees old mid → StandsForTree mid x (both_leaves (pair_of f) (tree_at old a) (tree_at old c)) → KeepsTrees mid new → StandsForTree new y (both_leaves (pair_of f) (tree_at mid b) (tree_at mid d)) → IsCombined new (Both f m n) p x y
both_combined old mid new f p m n a b c d x y table m_there n_there are first x_is second y_is =
    let g = pair_of f in
    let at = tree_at old in
    combined old mid new (Both f m n) p x y (both_leaves g (at a) (at c)) (both_leaves g (at b) (at d)) (m_there, n_there)
    (both-is g (at m) (at n) (table.canonical m m_there) (table.canonical n n_there)).canonical (both_halves g (at m) (at n) _ are.halves) first x_is second
    (subst (StandsForTree new y) (let k = first.same b are.b_there in let l = first.same d are.d_there in λ i. both_leaves g (k i) (l i)) y_is)

module _ (is : List Item) (p q : PathData) (m n a b c d : ℕ) (are : AreHalves is m n q a b c d) where
  abbrev at : ℕ → Cond
  at = tree_at is

  hold_by : (o : Ordering) → o ≡ path_order p q → hold p (at m) (at n) ≡ by_order o (node p (at m) (at n)) (node p (at a) (at d)) (node q (hold p (at a) (at c)) (hold p (at b) (at d)))
  hold_by o e =
      hold_halves p (at m) (at n) _ are.halves
      ∙ ap (λ r. by_order r (node p (at m) (at n)) (node p (at a) (at d)) (node q (hold p (at a) (at c)) (hold p (at b) (at d)))) (sym e)

  pub hold_less : Less ≡ path_order p q → hold p (at m) (at n) ≡ node p (at m) (at n)
  hold_less e = hold_by Less e

  pub hold_equal : Equal ≡ path_order p q → hold p (at m) (at n) ≡ node p (at a) (at d)
  hold_equal e = hold_by Equal e

pub hold_canonical : (is : List Item) (p : PathData) (m n : ℕ) (t : Cond) → IsTable is → m < length is → n < length is → hold p (tree_at is m) (tree_at is n) ≡ t → IsCanonical t
hold_canonical is p m n t table m_there n_there e =
    subst IsCanonical e (hold-is p (tree_at is m) (tree_at is n) (table.canonical m m_there) (table.canonical n n_there)).canonical

pub stands_as : {E : Type 0} (new : List Item) (r : Result ℕ E) (t u : Cond) → t ≡ u → IfOk r (λ k. StandsForTree new k u) → IfOk r (λ k. StandsForTree new k t)
stands_as new r t u e stands = subst (λ v. IfOk r (λ k. StandsForTree new k v)) (sym e) stands

pub hold_combined : (old mid new : List Item) (p r q : PathData) (m n a b c d x y : ℕ) → r ≡ p → IsTable old → m < length old → n < length old → AreHalves old m n q a b c d → Greater ≡ path_order p q
    → KeepsTrees old mid → StandsForTree mid x (hold p (tree_at old a) (tree_at old c)) → KeepsTrees mid new → StandsForTree new y (hold p (tree_at mid b) (tree_at mid d)) → IsCombined new (HeldOr r m n) q x y
hold_combined old mid new p r q m n a b c d x y copied table m_there n_there are greater first x_is second y_is =
    subst (λ s. IsCombined new (HeldOr s m n) q x y) (sym copied)
    (combined old mid new (HeldOr p m n) q x y (hold p (tree_at old a) (tree_at old c)) (hold p (tree_at old b) (tree_at old d)) (m_there, n_there)
    (hold_canonical old p m n _ table m_there n_there refl) (hold_by old p q m n a b c d are Greater greater) first x_is second
    (subst (StandsForTree new y) (let k = first.same b are.b_there in let l = first.same d are.d_there in λ i. hold p (k i) (l i)) y_is))

-- a synchronized part, by the parts of the test
sync_parts : (p q : PathData) (t a b : Cond) (o : Ordering) → t ≡ TestC q a b → o ≡ path_order p q
    → sync_tree p t ≡ by_order o (node p t (each_leaf lift_of t)) (node p a (each_leaf lift_of a)) (node q (sync_tree p a) (sync_tree p b))
sync_parts p q t a b o is e =
    subst (λ v. sync_tree p v ≡ by_order o (node p v (each_leaf lift_of v)) (node p a (each_leaf lift_of a)) (node q (sync_tree p a) (sync_tree p b))) (sym is)
    (ap (λ r. by_order r (node p (TestC q a b) (each_leaf lift_of (TestC q a b))) (node p a (each_leaf lift_of a)) (node q (sync_tree p a) (sync_tree p b))) (sym e))

pub sync_less : (p q : PathData) (t a b : Cond) → t ≡ TestC q a b → Less ≡ path_order p q → sync_tree p t ≡ node p t (each_leaf lift_of t)
sync_less p q t a b is e = sync_parts p q t a b Less is e

pub sync_equal : (p q : PathData) (t a b : Cond) → t ≡ TestC q a b → Equal ≡ path_order p q → sync_tree p t ≡ node p a (each_leaf lift_of a)
sync_equal p q t a b is e = sync_parts p q t a b Equal is e

pub sync_canonical : (is : List Item) (p : PathData) (n : ℕ) (t : Cond) → IsTable is → n < length is → sync_tree p (tree_at is n) ≡ t → IsCanonical t
sync_canonical is p n t table there e = subst IsCanonical e (sync-is p (tree_at is n) (table.canonical n there)).canonical

pub sync_combined : (old mid new : List Item) (p r q : PathData) (n a b x y : ℕ) → r ≡ p → IsTable old → n < length old → tree_at old n ≡ item_tree old (Test q a b) → AreBefore n (Test q a b) → Greater ≡ path_order p q
    → KeepsTrees old mid → StandsForTree mid x (sync_tree p (tree_at old a)) → KeepsTrees mid new → StandsForTree new y (sync_tree p (tree_at mid b)) → IsCombined new (Sync r n) q x y
sync_combined old mid new p r q n a b x y copied table there tree parts greater first x_is second y_is =
    subst (λ s. IsCombined new (Sync s n) q x y) (sym copied)
    (combined old mid new (Sync p n) q x y (sync_tree p (tree_at old a)) (sync_tree p (tree_at old b)) there
    (sync_canonical old p n _ table there refl) (sync_parts p q (tree_at old n) (tree_at old a) (tree_at old b) Greater tree greater) first x_is second
    (subst (λ t. StandsForTree new y (sync_tree p t)) (first.same b (omega (arith, parts.1, there))) y_is))

-- const is the unit of both calls
const_first : (f : Pair) (b : Basic) → pair_of f Const b ≡ b
const_first Seq Const = refl
const_first Seq Mover = refl
const_first Seq Atomic = refl
const_first Seq Cmpd = refl
const_first Seq Error = refl
const_first Join Const = refl
const_first Join Mover = refl
const_first Join Atomic = refl
const_first Join Cmpd = refl
const_first Join Error = refl

const_last : (f : Pair) (b : Basic) → pair_of f b Const ≡ b
const_last Seq Const = refl
const_last Seq Mover = refl
const_last Seq Atomic = refl
const_last Seq Cmpd = refl
const_last Seq Error = refl
const_last Join Const = refl
const_last Join Mover = refl
const_last Join Atomic = refl
const_last Join Cmpd = refl
const_last Join Error = refl

node_test : (q : PathData) (c d : Cond) → IsCanonical (TestC q c d) → node q c d ≡ TestC q c d
node_test q c d is =
    elim (cond_eq c d) as (λ b. cond_eq c d ≡ b → (if b then c else TestC q c d) ≡ TestC q c d) [
      | true ↦ λ e. absurd (is.differ (cond_eq-is c d e))
      | false ↦ λ e. refl
    ] refl

unit_first : (f : Pair) (t : Cond) → IsCanonical t → both_leaves (pair_of f) (LeafC Const) t ≡ t
unit_first f (LeafC y) is = ap LeafC (const_first f y)
unit_first f (TestC q c d) is = (let k = unit_first f c is.a_is in let l = unit_first f d is.b_is in λ i. node q (k i) (l i)) ∙ node_test q c d is

unit_last : (f : Pair) (t : Cond) → IsCanonical t → both_leaves (pair_of f) t (LeafC Const) ≡ t
unit_last f (LeafC y) is = ap LeafC (const_last f y)
unit_last f (TestC q c d) is = (let k = unit_last f c is.a_is in let l = unit_last f d is.b_is in λ i. node q (k i) (l i)) ∙ node_test q c d is

pub unit_before : (is : List Item) (f : Pair) (m n unit : ℕ) → IsTable is → n < length is → m ≡ unit → tree_at is unit ≡ LeafC Const → StandsForTree is n (both_leaves (pair_of f) (tree_at is m) (tree_at is n))
unit_before is f m n unit table there same const = record {
  there = there;
  tree = sym (ap (λ t. both_leaves (pair_of f) t (tree_at is n)) (ap (tree_at is) same ∙ const) ∙ unit_first f (tree_at is n) (table.canonical n there));
}

pub unit_behind : (is : List Item) (f : Pair) (m n unit : ℕ) → IsTable is → m < length is → n ≡ unit → tree_at is unit ≡ LeafC Const → StandsForTree is m (both_leaves (pair_of f) (tree_at is m) (tree_at is n))
unit_behind is f m n unit table there same const = record {
  there = there;
  tree = sym (ap (both_leaves (pair_of f) (tree_at is m)) (ap (tree_at is) same ∙ const) ∙ unit_last f (tree_at is m) (table.canonical m there));
}
