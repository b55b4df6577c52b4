-- What the choice between two trees by a path means at every set.
use Rattle.std.proofs.Common.{◌≡◌, Bool, true, false, refl, sym, ◌∙◌, subst, if◌then◌else◌}
use Rattle.std.specs.declared.cmp.Ordering.TheVariants.{Less, Greater}
use Rattle.paths.specs.Paths.{PathData, path_order}
use Rattle.paths.proofs.PathOrder.{equal_is, greater_turned, less_chain}
use Rattle.algebra.specs.declared.basic.Basic.{Basic}
use Rattle.conditions.specs.Conditions.{Cond, LeafC, TestC, value_of, IsAfter, IsCanonical}
use Rattle.conditions.specs.Operations.{node, hold}
use Rattle.conditions.proofs.NodeLemmas.{Is, Parts, either, node-is, node-after, by_order-after, by_order-is, parts-test, parts-tied, parts-none, parts-later}
use Rattle.conditions.proofs.LeafLemmas.{node_of, as_values}

-- a choice made twice is made once
chosen : (c : Bool) (x y z w : Basic) → (if c then x else w) ≡ (if c then (if c then x else y) else (if c then z else w))
chosen true x y z w = refl
chosen false x y z w = refl

-- two choices change places
swapped : (c d : Bool) (x y z w : Basic) → (if c then (if d then x else z) else (if d then y else w)) ≡ (if d then (if c then x else y) else (if c then z else w))
swapped true true x y z w = refl
swapped true false x y z w = refl
swapped false true x y z w = refl
swapped false false x y z w = refl

-- the path of the choice comes first
hold-first : (p : PathData) (t u a b c d : Cond) → Parts p t a b → Parts p u c d → Is (either p t u) (node p a d)
hold-first p t u a b c d of_t of_u =
    as_values (either p a d) (either p t u) (node p a d)
    (node-is p a d of_t.after_a of_u.after_b of_t.a_is of_u.b_is)
    (λ H.
    chosen (H p) (value_of a H) (value_of b H) (value_of c H) (value_of d H)
    ∙ (let k = sym (of_t.splits H) in let m = sym (of_u.splits H) in λ i. if H p then k i else m i))

-- a smaller path comes first
hold-later : (p r : PathData) (t u a b c d : Cond) → Parts r t a b → Parts r u c d → IsAfter r (hold p a c) → IsAfter r (hold p b d) → Is (either p a c) (hold p a c) → Is (either p b d) (hold p b d) → Is (either p t u) (node r (hold p a c) (hold p b d))
hold-later p r t u a b c d of_t of_u after_x after_y first second =
    as_values (λ H. if H r then either p a c H else either p b d H) (either p t u) (node r (hold p a c) (hold p b d))
    (node_of r (hold p a c) (hold p b d) (either p a c) (either p b d) after_x after_y first second)
    (λ H.
    swapped (H r) (H p) (value_of a H) (value_of b H) (value_of c H) (value_of d H)
    ∙ (let k = sym (of_t.splits H) in let m = sym (of_u.splits H) in λ i. if H p then k i else m i))

pub hold-after : (r p : PathData) (t u : Cond) → path_order r p ≡ Less → IsAfter r t → IsAfter r u → IsAfter r (hold p t u)
hold-after r p (LeafC x) (LeafC y) less after_t after_u = node-after r p (LeafC x) (LeafC y) less tt tt
hold-after r p (LeafC x) (TestC s c d) less after_t after_u =
    by_order-after r (path_order p s) _ _ _
    (node-after r p (LeafC x) (TestC s c d) less after_t after_u)
    (node-after r p (LeafC x) d less after_t after_u.2)
    (node-after r s (hold p (LeafC x) c) (hold p (LeafC x) d) after_u.0
    (hold-after r p (LeafC x) c less after_t after_u.1) (hold-after r p (LeafC x) d less after_t after_u.2))
hold-after r p (TestC q a b) (LeafC y) less after_t after_u =
    by_order-after r (path_order p q) _ _ _
    (node-after r p (TestC q a b) (LeafC y) less after_t after_u)
    (node-after r p a (LeafC y) less after_t.1 after_u)
    (node-after r q (hold p a (LeafC y)) (hold p b (LeafC y)) after_t.0
    (hold-after r p a (LeafC y) less after_t.1 after_u) (hold-after r p b (LeafC y) less after_t.2 after_u))
hold-after r p (TestC q a b) (TestC s c d) less after_t after_u =
    by_order-after r (path_order q s) _ _ _
    (by_order-after r (path_order p q) _ _ _
    (node-after r p (TestC q a b) (TestC s c d) less after_t after_u)
    (node-after r p a (TestC s c d) less after_t.1 after_u)
    (node-after r q (hold p a (TestC s c d)) (hold p b (TestC s c d)) after_t.0
    (hold-after r p a (TestC s c d) less after_t.1 after_u) (hold-after r p b (TestC s c d) less after_t.2 after_u)))
    (by_order-after r (path_order p q) _ _ _
    (node-after r p (TestC q a b) (TestC s c d) less after_t after_u)
    (node-after r p a d less after_t.1 after_u.2)
    (node-after r q (hold p a c) (hold p b d) after_t.0
    (hold-after r p a c less after_t.1 after_u.1) (hold-after r p b d less after_t.2 after_u.2)))
    (by_order-after r (path_order p s) _ _ _
    (node-after r p (TestC q a b) (TestC s c d) less after_t after_u)
    (node-after r p (TestC q a b) d less after_t after_u.2)
    (node-after r s (hold p (TestC q a b) c) (hold p (TestC q a b) d) after_u.0
    (hold-after r p (TestC q a b) c less after_t after_u.1) (hold-after r p (TestC q a b) d less after_t after_u.2)))

-- the same with what comes after a path that is smaller by the other order
later : (p r : PathData) (t u a b c d : Cond) → path_order p r ≡ Greater → Parts r t a b → Parts r u c d → Is (either p a c) (hold p a c) → Is (either p b d) (hold p b d) → Is (either p t u) (node r (hold p a c) (hold p b d))
later p r t u a b c d greater of_t of_u first second =
    let less = greater_turned p r greater in
    hold-later p r t u a b c d of_t of_u
    (hold-after r p a c less of_t.after_a of_u.after_a) (hold-after r p b d less of_t.after_b of_u.after_b)
    first second

pub hold-is : (p : PathData) (t u : Cond) → IsCanonical t → IsCanonical u → Is (either p t u) (hold p t u)
hold-is p (LeafC x) (LeafC y) t_is u_is = node-is p (LeafC x) (LeafC y) tt tt tt tt
hold-is p (LeafC x) (TestC r c d) t_is u_is =
    by_order-is (either p (LeafC x) (TestC r c d)) (path_order p r) _ _ _
    (λ less. hold-first p (LeafC x) (TestC r c d) (LeafC x) (LeafC x) (TestC r c d) (TestC r c d)
    (parts-none p (LeafC x) tt tt) (parts-later p r c d less u_is))
    (λ equal. hold-first p (LeafC x) (TestC r c d) (LeafC x) (LeafC x) c d
    (parts-none p (LeafC x) tt tt) (parts-tied p r c d (equal_is p r equal) u_is))
    (λ greater. later p r (LeafC x) (TestC r c d) (LeafC x) (LeafC x) c d greater
    (parts-none r (LeafC x) tt tt) (parts-test r c d u_is)
    (hold-is p (LeafC x) c tt u_is.a_is) (hold-is p (LeafC x) d tt u_is.b_is))
hold-is p (TestC q a b) (LeafC y) t_is u_is =
    by_order-is (either p (TestC q a b) (LeafC y)) (path_order p q) _ _ _
    (λ less. hold-first p (TestC q a b) (LeafC y) (TestC q a b) (TestC q a b) (LeafC y) (LeafC y)
    (parts-later p q a b less t_is) (parts-none p (LeafC y) tt tt))
    (λ equal. hold-first p (TestC q a b) (LeafC y) a b (LeafC y) (LeafC y)
    (parts-tied p q a b (equal_is p q equal) t_is) (parts-none p (LeafC y) tt tt))
    (λ greater. later p q (TestC q a b) (LeafC y) a b (LeafC y) (LeafC y) greater
    (parts-test q a b t_is) (parts-none q (LeafC y) tt tt)
    (hold-is p a (LeafC y) t_is.a_is tt) (hold-is p b (LeafC y) t_is.b_is tt))
hold-is p (TestC q a b) (TestC r c d) t_is u_is =
    by_order-is (either p (TestC q a b) (TestC r c d)) (path_order q r) _ _ _
    (λ q_first. by_order-is (either p (TestC q a b) (TestC r c d)) (path_order p q) _ _ _
    (λ less. hold-first p (TestC q a b) (TestC r c d) (TestC q a b) (TestC q a b) (TestC r c d) (TestC r c d)
    (parts-later p q a b less t_is) (parts-later p r c d (less_chain p q r less q_first) u_is))
    (λ equal. hold-first p (TestC q a b) (TestC r c d) a b (TestC r c d) (TestC r c d)
    (parts-tied p q a b (equal_is p q equal) t_is)
    (parts-later p r c d (subst (λ s. path_order s r ≡ Less) (sym (equal_is p q equal)) q_first) u_is))
    (λ greater. later p q (TestC q a b) (TestC r c d) a b (TestC r c d) (TestC r c d) greater
    (parts-test q a b t_is) (parts-later q r c d q_first u_is)
    (hold-is p a (TestC r c d) t_is.a_is u_is) (hold-is p b (TestC r c d) t_is.b_is u_is)))
    (λ tied. by_order-is (either p (TestC q a b) (TestC r c d)) (path_order p q) _ _ _
    (λ less. hold-first p (TestC q a b) (TestC r c d) (TestC q a b) (TestC q a b) (TestC r c d) (TestC r c d)
    (parts-later p q a b less t_is)
    (parts-later p r c d (subst (λ s. path_order p s ≡ Less) (equal_is q r tied) less) u_is))
    (λ equal. hold-first p (TestC q a b) (TestC r c d) a b c d
    (parts-tied p q a b (equal_is p q equal) t_is)
    (parts-tied p r c d (equal_is p q equal ∙ equal_is q r tied) u_is))
    (λ greater. later p q (TestC q a b) (TestC r c d) a b c d greater
    (parts-test q a b t_is) (parts-tied q r c d (equal_is q r tied) u_is)
    (hold-is p a c t_is.a_is u_is.a_is) (hold-is p b d t_is.b_is u_is.b_is)))
    (λ r_first. by_order-is (either p (TestC q a b) (TestC r c d)) (path_order p r) _ _ _
    (λ less. hold-first p (TestC q a b) (TestC r c d) (TestC q a b) (TestC q a b) (TestC r c d) (TestC r c d)
    (parts-later p q a b (less_chain p r q less (greater_turned q r r_first)) t_is) (parts-later p r c d less u_is))
    (λ equal. hold-first p (TestC q a b) (TestC r c d) (TestC q a b) (TestC q a b) c d
    (parts-later p q a b (subst (λ s. path_order s q ≡ Less) (sym (equal_is p r equal)) (greater_turned q r r_first)) t_is)
    (parts-tied p r c d (equal_is p r equal) u_is))
    (λ greater. later p r (TestC q a b) (TestC r c d) (TestC q a b) (TestC q a b) c d greater
    (parts-later r q a b (greater_turned q r r_first) t_is) (parts-test r c d u_is)
    (hold-is p (TestC q a b) c t_is u_is.a_is) (hold-is p (TestC q a b) d t_is u_is.b_is)))
