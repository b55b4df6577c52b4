-- The comparison of two trees says exactly whether the first is at most the second at every set.
use Rattle.std.proofs.Common.{◌≡◌, ◌&&◌, Bool, true, false, refl, sym, ◌∙◌, if◌then◌else◌}
use Rattle.std.specs.Cmp.{first_so, second_so}
use Rattle.std.specs.declared.cmp.Ordering.{Ordering}
use Rattle.std.specs.declared.cmp.Ordering.TheVariants.{Less, Equal, Greater}
use Rattle.std.proofs.lemmas.Bool.{and_from}
use Rattle.paths.specs.Paths.{PathData, path_order}
use Rattle.paths.proofs.PathOrder.{equal_is, greater_turned}
use Rattle.algebra.specs.declared.basic.Basic.{Basic}
use Rattle.algebra.specs.Basics.{below_of}
use Rattle.algebra.specs.HeldPaths.{Held}
use Rattle.conditions.specs.Conditions.{Cond, LeafC, TestC, value_of, IsCanonical}
use Rattle.conditions.specs.Operations.{by_order, below_tree}
use Rattle.conditions.proofs.PathLemmas.{put}
use Rattle.conditions.proofs.NodeLemmas.{Parts, parts-test, parts-tied, parts-none, parts-later, parts-high, parts-low}

-- the first is at most the second at every set
abbrev pub IsBelow : Cond → Cond → Type 0
IsBelow t u = (H : Held) → below_of (value_of t H) (value_of u H) ≡ true

-- the test is exact
pub record Exact (t u : Cond) (test : Bool) : Type 0 where
  pub sound : test ≡ true → IsBelow t u
  pub complete : IsBelow t u → test ≡ true

below_if : (c : Bool) (x y z w : Basic) → below_of x z ≡ true → below_of y w ≡ true → below_of (if c then x else y) (if c then z else w) ≡ true
below_if true x y z w first second = first
below_if false x y z w first second = second

below-step : (q : PathData) (t u a b c d : Cond) (x y : Bool) → Parts q t a b → Parts q u c d → Exact a c x → Exact b d y → Exact t u (x && y)
below-step q t u a b c d x y of_t of_u first second = record {
  sound = λ both H.
      (let k = of_t.splits H in let m = of_u.splits H in λ i. below_of (k i) (m i))
      ∙ below_if (H q) (value_of a H) (value_of b H) (value_of c H) (value_of d H) (first.sound (first_so x y both) H) (second.sound (second_so x y both) H);
  complete = λ below.
      and_from x y
      (first.complete (λ H. (let k = sym (parts-high q t a b of_t H) in let m = sym (parts-high q u c d of_u H) in λ i. below_of (k i) (m i)) ∙ below (put q true H)))
      (second.complete (λ H. (let k = sym (parts-low q t a b of_t H) in let m = sym (parts-low q u c d of_u H) in λ i. below_of (k i) (m i)) ∙ below (put q false H)));
}

by_order-exact : (t u : Cond) (o : Ordering) (x y z : Bool) → (o ≡ Less → Exact t u x) → (o ≡ Equal → Exact t u y) → (o ≡ Greater → Exact t u z) → Exact t u (by_order o x y z)
by_order-exact t u Less x y z less equal greater = less refl
by_order-exact t u Equal x y z less equal greater = equal refl
by_order-exact t u Greater x y z less equal greater = greater refl

pub below-exact : (t u : Cond) → IsCanonical t → IsCanonical u → Exact t u (below_tree t u)
below-exact (LeafC x) (LeafC y) t_is u_is = record { sound = λ below H. below; complete = λ below. below (λ q. false) }
below-exact (LeafC x) (TestC q c d) t_is u_is =
    below-step q (LeafC x) (TestC q c d) (LeafC x) (LeafC x) c d (below_tree (LeafC x) c) (below_tree (LeafC x) d)
    (parts-none q (LeafC x) tt tt) (parts-test q c d u_is)
    (below-exact (LeafC x) c tt u_is.a_is) (below-exact (LeafC x) d tt u_is.b_is)
below-exact (TestC p a b) (LeafC y) t_is u_is =
    below-step p (TestC p a b) (LeafC y) a b (LeafC y) (LeafC y) (below_tree a (LeafC y)) (below_tree b (LeafC y))
    (parts-test p a b t_is) (parts-none p (LeafC y) tt tt)
    (below-exact a (LeafC y) t_is.a_is tt) (below-exact b (LeafC y) t_is.b_is tt)
below-exact (TestC p a b) (TestC q c d) t_is u_is =
    by_order-exact (TestC p a b) (TestC q c d) (path_order p q) _ _ _
    (λ less.
    below-step p (TestC p a b) (TestC q c d) a b (TestC q c d) (TestC q c d) (below_tree a (TestC q c d)) (below_tree b (TestC q c d))
    (parts-test p a b t_is) (parts-later p q c d less u_is)
    (below-exact a (TestC q c d) t_is.a_is u_is) (below-exact b (TestC q c d) t_is.b_is u_is))
    (λ equal.
    below-step p (TestC p a b) (TestC q c d) a b c d (below_tree a c) (below_tree b d)
    (parts-test p a b t_is) (parts-tied p q c d (equal_is p q equal) u_is)
    (below-exact a c t_is.a_is u_is.a_is) (below-exact b d t_is.b_is u_is.b_is))
    (λ greater.
    below-step q (TestC p a b) (TestC q c d) (TestC p a b) (TestC p a b) c d (below_tree (TestC p a b) c) (below_tree (TestC p a b) d)
    (parts-later q p a b (greater_turned p q greater) t_is) (parts-test q c d u_is)
    (below-exact (TestC p a b) c t_is u_is.a_is) (below-exact (TestC p a b) d t_is u_is.b_is))
