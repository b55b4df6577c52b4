-- What the tree of a synchronized part means at every set.
use Rattle.std.proofs.Common.{◌≡◌, Bool, true, false, refl, sym, ◌∙◌, ap, if◌then◌else◌}
use Rattle.std.specs.declared.cmp.Ordering.TheVariants.{Less}
use Rattle.paths.specs.Paths.{PathData, path_order}
use Rattle.paths.proofs.PathOrder.{equal_is, greater_turned}
use Rattle.algebra.specs.declared.basic.Basic.{Basic}
use Rattle.algebra.specs.Basics.{lift_of}
use Rattle.algebra.specs.HeldPaths.{Held, with_path}
use Rattle.algebra.specs.Values.{sync_of}
use Rattle.algebra.proofs.Sets.{with_itself}
use Rattle.conditions.specs.Conditions.{Cond, LeafC, TestC, value_of, IsAfter, IsCanonical}
use Rattle.conditions.specs.Operations.{node, each_leaf, sync_tree}
use Rattle.conditions.proofs.PathLemmas.{with_earlier}
use Rattle.conditions.proofs.CondLemmas.{with_after}
use Rattle.conditions.proofs.NodeLemmas.{Is, Parts, node-after, by_order-after, by_order-is, parts-tied, parts-none, parts-later}
use Rattle.conditions.proofs.LeafLemmas.{node_of, as_values, each-after, each-is}

-- with the path added, the value is that of the part where it is held
with_parts : (p : PathData) (t a b : Cond) → Parts p t a b → (H : Held) → value_of t (with_path p H) ≡ value_of a H
with_parts p t a b parts H =
    parts.splits (with_path p H)
    ∙ ap (λ v. if v then value_of a (with_path p H) else value_of b (with_path p H)) (with_itself p H)
    ∙ with_after p a H parts.after_a

if_then : (c : Bool) (x y z : Basic) → (if c then x else z) ≡ (if c then (if c then x else y) else z)
if_then true x y z = refl
if_then false x y z = refl

-- the lock comes first
sync-first : (p : PathData) (t a b : Cond) → Parts p t a b → Is (sync_of p (value_of t)) (node p a (each_leaf lift_of a))
sync-first p t a b parts =
    as_values (λ H. if H p then value_of a H else lift_of (value_of a H)) (sync_of p (value_of t)) (node p a (each_leaf lift_of a))
    (node_of p a (each_leaf lift_of a) (value_of a) (λ H. lift_of (value_of a H))
    parts.after_a (each-after lift_of p a parts.after_a) (record { canonical = parts.a_is; same = λ H. refl }) (each-is lift_of a parts.a_is))
    (λ H.
    if_then (H p) (value_of a H) (value_of b H) (lift_of (value_of a H))
    ∙ (let k = sym (parts.splits H) in let m = sym (with_parts p t a b parts H) in λ i. if H p then k i else lift_of (m i)))

swap_lift : (c d : Bool) (x y z w : Basic) → (if c then (if d then x else lift_of z) else (if d then y else lift_of w)) ≡ (if d then (if c then x else y) else lift_of (if c then z else w))
swap_lift true true x y z w = refl
swap_lift true false x y z w = refl
swap_lift false true x y z w = refl
swap_lift false false x y z w = refl

pub sync-after : (r p : PathData) (t : Cond) → path_order r p ≡ Less → IsAfter r t → IsAfter r (sync_tree p t)
sync-after r p (LeafC b) less after = node-after r p (LeafC b) (LeafC (lift_of b)) less tt tt
sync-after r p (TestC q a b) less after =
    by_order-after r (path_order p q) _ _ _
    (node-after r p (TestC q a b) (each_leaf lift_of (TestC q a b)) less after (each-after lift_of r (TestC q a b) after))
    (node-after r p a (each_leaf lift_of a) less after.1 (each-after lift_of r a after.1))
    (node-after r q (sync_tree p a) (sync_tree p b) after.0 (sync-after r p a less after.1) (sync-after r p b less after.2))

-- a smaller path comes first
sync-later : (p q : PathData) (a b : Cond) → path_order q p ≡ Less → IsCanonical (TestC q a b) → Is (sync_of p (value_of a)) (sync_tree p a) → Is (sync_of p (value_of b)) (sync_tree p b) → Is (sync_of p (value_of (TestC q a b))) (node q (sync_tree p a) (sync_tree p b))
sync-later p q a b less is first second =
    as_values (λ H. if H q then sync_of p (value_of a) H else sync_of p (value_of b) H) (sync_of p (value_of (TestC q a b))) (node q (sync_tree p a) (sync_tree p b))
    (node_of q (sync_tree p a) (sync_tree p b) (sync_of p (value_of a)) (sync_of p (value_of b))
    (sync-after q p a less is.after_a) (sync-after q p b less is.after_b) first second)
    (λ H.
    swap_lift (H q) (H p) (value_of a H) (value_of b H) (value_of a (with_path p H)) (value_of b (with_path p H))
    ∙ (let k = sym (with_earlier p H q less) in λ i. if H p then (if H q then value_of a H else value_of b H) else lift_of (if k i then value_of a (with_path p H) else value_of b (with_path p H))))

pub sync-is : (p : PathData) (t : Cond) → IsCanonical t → Is (sync_of p (value_of t)) (sync_tree p t)
sync-is p (LeafC b) is = sync-first p (LeafC b) (LeafC b) (LeafC b) (parts-none p (LeafC b) tt tt)
sync-is p (TestC q a b) is =
    by_order-is (sync_of p (value_of (TestC q a b))) (path_order p q) _ _ _
    (λ less. sync-first p (TestC q a b) (TestC q a b) (TestC q a b) (parts-later p q a b less is))
    (λ equal. sync-first p (TestC q a b) a b (parts-tied p q a b (equal_is p q equal) is))
    (λ greater. sync-later p q a b (greater_turned p q greater) is (sync-is p a is.a_is) (sync-is p b is.b_is))
