-- Trees after a path, and the test of equality.
use Rattle.std.proofs.Common.{◌≡◌, ◌&&◌, Bool, true, false, refl, ap, subst, eqb-true, eq-eqb, if◌then◌else◌}
use Rattle.std.specs.Cmp.{first_so, second_so}
use Rattle.std.specs.declared.cmp.Ordering.TheVariants.{Less}
use Rattle.paths.specs.Paths.{PathData, path_order, path_eq}
use Rattle.paths.proofs.PathOrder.{eq_is, eq_itself, less_chain}
use Rattle.algebra.specs.HeldPaths.{Held, with_path}
use Rattle.algebra.proofs.Ranks.{same_rank}
use Rattle.conditions.specs.Conditions.{Cond, LeafC, TestC, value_of, IsAfter, IsCanonical, cond_eq}
use Rattle.conditions.proofs.PathLemmas.{put, put_later, with_later}

-- what comes after a path comes after each smaller one
pub after_smaller : (p q : PathData) (t : Cond) → path_order p q ≡ Less → IsAfter q t → IsAfter p t
after_smaller p q (LeafC b) less after = tt
after_smaller p q (TestC r a b) less after =
    (less_chain p q r less after.0, after_smaller p q a less after.1, after_smaller p q b less after.2)

-- a canonical test on a later path comes after the path as a whole
pub after_test : (p q : PathData) (a b : Cond) → path_order p q ≡ Less → IsCanonical (TestC q a b) → IsAfter p (TestC q a b)
after_test p q a b less is = (less, after_smaller p q a less is.after_a, after_smaller p q b less is.after_b)

-- the value of a tree after a path depends on later paths alone
pub same_later : (p : PathData) (t : Cond) (H K : Held) → ((q : PathData) → path_order p q ≡ Less → K q ≡ H q) → IsAfter p t → value_of t K ≡ value_of t H
same_later p (LeafC b) H K later after = refl
same_later p (TestC q a b) H K later after =
    let here = later q after.0 in
    let first = same_later p a H K later after.1 in
    let second = same_later p b H K later after.2 in
    λ i. if here i then first i else second i

pub put_after : (p : PathData) (v : Bool) (t : Cond) (H : Held) → IsAfter p t → value_of t (put p v H) ≡ value_of t H
put_after p v t H after = same_later p t H (put p v H) (put_later p v H) after

pub with_after : (p : PathData) (t : Cond) (H : Held) → IsAfter p t → value_of t (with_path p H) ≡ value_of t H
with_after p t H after = same_later p t H (with_path p H) (with_later p H) after

pub cond_eq-is : (t u : Cond) → cond_eq t u ≡ true → t ≡ u
cond_eq-is (LeafC b) (LeafC c) e = ap LeafC (same_rank b c (eqb-true _ _ e))
cond_eq-is (LeafC b) (TestC q c d) e = absurd (let no : false ≡ true = e in cc)
cond_eq-is (TestC p a b) (LeafC c) e = absurd (let no : false ≡ true = e in cc)
cond_eq-is (TestC p a b) (TestC q c d) e =
    let root = eq_is p q (first_so (path_eq p q) (cond_eq a c && cond_eq b d) e) in
    let rest = second_so (path_eq p q) (cond_eq a c && cond_eq b d) e in
    let first = cond_eq-is a c (first_so (cond_eq a c) (cond_eq b d) rest) in
    let second = cond_eq-is b d (second_so (cond_eq a c) (cond_eq b d) rest) in
    λ i. TestC (root i) (first i) (second i)

pub cond_eq-itself : (t : Cond) → cond_eq t t ≡ true
cond_eq-itself (LeafC b) = eq-eqb _ _ refl
cond_eq-itself (TestC p a b) =
    let root = eq_itself p in
    let first = cond_eq-itself a in
    let second = cond_eq-itself b in
    λ i. root i && (first i && second i)

pub is-cond_eq : (t u : Cond) → t ≡ u → cond_eq t u ≡ true
is-cond_eq t u e = subst (λ x. cond_eq t x ≡ true) e (cond_eq-itself t)
