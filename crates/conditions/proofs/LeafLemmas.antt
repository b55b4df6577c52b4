-- What a change of each leaf, and a call on the leaves of two trees, mean at every set.
use Rattle.std.proofs.Common.{◌≡◌, Bool, true, false, refl, sym, ◌∙◌, if◌then◌else◌}
use Rattle.paths.specs.Paths.{PathData, path_order}
use Rattle.paths.proofs.PathOrder.{equal_is, greater_turned}
use Rattle.algebra.specs.declared.basic.Basic.{Basic}
use Rattle.algebra.specs.HeldPaths.{Held}
use Rattle.conditions.specs.Conditions.{Cond, LeafC, TestC, value_of, IsAfter, IsCanonical}
use Rattle.conditions.specs.Operations.{node, each_leaf, both_leaves}
use Rattle.conditions.proofs.NodeLemmas.{Is, Parts, node-is, node-after, by_order-after, by_order-is, parts-test, parts-tied, parts-none, parts-later}

push_one : (f : Basic → Basic) (c : Bool) (x y : Basic) → (if c then f x else f y) ≡ f (if c then x else y)
push_one f true x y = refl
push_one f false x y = refl

push_two : (f : Basic → Basic → Basic) (c : Bool) (x y z w : Basic) → (if c then f x z else f y w) ≡ f (if c then x else y) (if c then z else w)
push_two f true x y z w = refl
push_two f false x y z w = refl

-- the parts' values at one set give the node's
pub node_of : (p : PathData) (x y : Cond) (v w : Held → Basic) → IsAfter p x → IsAfter p y → Is v x → Is w y → Is (λ H. if H p then v H else w H) (node p x y)
node_of p x y v w after_x after_y x_is y_is =
    let n = node-is p x y after_x after_y x_is.canonical y_is.canonical in
    record {
      canonical = n.canonical;
      same = λ H. n.same H ∙ (let k = x_is.same H in let m = y_is.same H in λ i. if H p then k i else m i);
    }

pub as_values : (v w : Held → Basic) (t : Cond) → Is v t → ((H : Held) → v H ≡ w H) → Is w t
as_values v w t is same = record { canonical = is.canonical; same = λ H. is.same H ∙ same H }

pub each-after : (f : Basic → Basic) (q : PathData) (t : Cond) → IsAfter q t → IsAfter q (each_leaf f t)
each-after f q (LeafC b) after = tt
each-after f q (TestC p a b) after =
    node-after q p (each_leaf f a) (each_leaf f b) after.0 (each-after f q a after.1) (each-after f q b after.2)

pub each-is : (f : Basic → Basic) (t : Cond) → IsCanonical t → Is (λ H. f (value_of t H)) (each_leaf f t)
each-is f (LeafC b) is = record { canonical = tt; same = λ H. refl }
each-is f (TestC p a b) is =
    as_values (λ H. if H p then f (value_of a H) else f (value_of b H)) (λ H. f (value_of (TestC p a b) H)) (node p (each_leaf f a) (each_leaf f b))
    (node_of p (each_leaf f a) (each_leaf f b) (λ H. f (value_of a H)) (λ H. f (value_of b H))
    (each-after f p a is.after_a) (each-after f p b is.after_b) (each-is f a is.a_is) (each-is f b is.b_is))
    (λ H. push_one f (H p) (value_of a H) (value_of b H))

pub both-after : (f : Basic → Basic → Basic) (r : PathData) (t u : Cond) → IsAfter r t → IsAfter r u → IsAfter r (both_leaves f t u)
both-after f r (LeafC x) (LeafC y) after_t after_u = tt
both-after f r (LeafC x) (TestC q c d) after_t after_u =
    node-after r q (both_leaves f (LeafC x) c) (both_leaves f (LeafC x) d) after_u.0
    (both-after f r (LeafC x) c tt after_u.1) (both-after f r (LeafC x) d tt after_u.2)
both-after f r (TestC p a b) (LeafC y) after_t after_u =
    node-after r p (both_leaves f a (LeafC y)) (both_leaves f b (LeafC y)) after_t.0
    (both-after f r a (LeafC y) after_t.1 tt) (both-after f r b (LeafC y) after_t.2 tt)
both-after f r (TestC p a b) (TestC q c d) after_t after_u =
    by_order-after r (path_order p q) _ _ _
    (node-after r p (both_leaves f a (TestC q c d)) (both_leaves f b (TestC q c d)) after_t.0
    (both-after f r a (TestC q c d) after_t.1 after_u) (both-after f r b (TestC q c d) after_t.2 after_u))
    (node-after r p (both_leaves f a c) (both_leaves f b d) after_t.0
    (both-after f r a c after_t.1 after_u.1) (both-after f r b d after_t.2 after_u.2))
    (node-after r q (both_leaves f (TestC p a b) c) (both_leaves f (TestC p a b) d) after_u.0
    (both-after f r (TestC p a b) c after_t after_u.1) (both-after f r (TestC p a b) d after_t after_u.2))

abbrev both_of : (Basic → Basic → Basic) → Cond → Cond → Held → Basic
both_of f t u H = f (value_of t H) (value_of u H)

-- from the parts at a path to the whole
both-step : (f : Basic → Basic → Basic) (q : PathData) (t u a b c d : Cond) → Parts q t a b → Parts q u c d → Is (both_of f a c) (both_leaves f a c) → Is (both_of f b d) (both_leaves f b d) → Is (both_of f t u) (node q (both_leaves f a c) (both_leaves f b d))
both-step f q t u a b c d of_t of_u first second =
    as_values (λ H. if H q then both_of f a c H else both_of f b d H) (both_of f t u) (node q (both_leaves f a c) (both_leaves f b d))
    (node_of q (both_leaves f a c) (both_leaves f b d) (both_of f a c) (both_of f b d)
    (both-after f q a c of_t.after_a of_u.after_a) (both-after f q b d of_t.after_b of_u.after_b) first second)
    (λ H.
    push_two f (H q) (value_of a H) (value_of b H) (value_of c H) (value_of d H)
    ∙ (let k = sym (of_t.splits H) in let m = sym (of_u.splits H) in λ i. f (k i) (m i)))

pub both-is : (f : Basic → Basic → Basic) (t u : Cond) → IsCanonical t → IsCanonical u → Is (both_of f t u) (both_leaves f t u)
both-is f (LeafC x) (LeafC y) t_is u_is = record { canonical = tt; same = λ H. refl }
both-is f (LeafC x) (TestC q c d) t_is u_is =
    both-step f q (LeafC x) (TestC q c d) (LeafC x) (LeafC x) c d (parts-none q (LeafC x) tt tt) (parts-test q c d u_is)
    (both-is f (LeafC x) c tt u_is.a_is) (both-is f (LeafC x) d tt u_is.b_is)
both-is f (TestC p a b) (LeafC y) t_is u_is =
    both-step f p (TestC p a b) (LeafC y) a b (LeafC y) (LeafC y) (parts-test p a b t_is) (parts-none p (LeafC y) tt tt)
    (both-is f a (LeafC y) t_is.a_is tt) (both-is f b (LeafC y) t_is.b_is tt)
both-is f (TestC p a b) (TestC q c d) t_is u_is =
    by_order-is (both_of f (TestC p a b) (TestC q c d)) (path_order p q) _ _ _
    (λ less.
    both-step f p (TestC p a b) (TestC q c d) a b (TestC q c d) (TestC q c d) (parts-test p a b t_is) (parts-later p q c d less u_is)
    (both-is f a (TestC q c d) t_is.a_is u_is) (both-is f b (TestC q c d) t_is.b_is u_is))
    (λ equal.
    both-step f p (TestC p a b) (TestC q c d) a b c d (parts-test p a b t_is) (parts-tied p q c d (equal_is p q equal) u_is)
    (both-is f a c t_is.a_is u_is.a_is) (both-is f b d t_is.b_is u_is.b_is))
    (λ greater.
    both-step f q (TestC p a b) (TestC q c d) (TestC p a b) (TestC p a b) c d (parts-later q p a b (greater_turned p q greater) t_is) (parts-test q c d u_is)
    (both-is f (TestC p a b) c t_is u_is.a_is) (both-is f (TestC p a b) d t_is u_is.b_is))
