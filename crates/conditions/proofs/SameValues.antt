-- Canonical trees with the same value at every set are the same tree.
use Rattle.std.proofs.Common.{◌≡◌, true, false, refl, sym, ◌∙◌, ap, subst, if◌then◌else◌}
use Rattle.std.specs.declared.cmp.Ordering.{Ordering}
use Rattle.std.specs.declared.cmp.Ordering.TheVariants.{Less, Equal, Greater}
use Rattle.paths.specs.Paths.{PathData, path_order}
use Rattle.paths.proofs.PathOrder.{equal_is, greater_turned}
use Rattle.algebra.specs.HeldPaths.{Held}
use Rattle.conditions.specs.Conditions.{Cond, LeafC, TestC, value_of, IsAfter, IsCanonical}
use Rattle.conditions.proofs.PathLemmas.{put, put_same}
use Rattle.conditions.proofs.CondLemmas.{put_after, after_test}

-- with its path put in, a test has the value of its first branch
high : (p : PathData) (a b : Cond) (H : Held) → IsAfter p a → value_of (TestC p a b) (put p true H) ≡ value_of a H
high p a b H after = ap (λ v. if v then value_of a (put p true H) else value_of b (put p true H)) (put_same p true H) ∙ put_after p true a H after

-- with its path taken out, that of its second branch
low : (p : PathData) (a b : Cond) (H : Held) → IsAfter p b → value_of (TestC p a b) (put p false H) ≡ value_of b H
low p a b H after = ap (λ v. if v then value_of a (put p false H) else value_of b (put p false H)) (put_same p false H) ∙ put_after p false b H after

pub order_cases : {X : Type 0} (o : Ordering) → (o ≡ Less → X) → (o ≡ Equal → X) → (o ≡ Greater → X) → X
order_cases Less less equal greater = less refl
order_cases Equal less equal greater = equal refl
order_cases Greater less equal greater = greater refl

pub unique : (t u : Cond) → IsCanonical t → IsCanonical u → ((H : Held) → value_of t H ≡ value_of u H) → t ≡ u
unique (LeafC x) (LeafC y) t_is u_is same = ap LeafC (same (λ q. false))
unique (LeafC x) (TestC q c d) t_is u_is same =
    let first = unique (LeafC x) c tt u_is.a_is (λ H. same (put q true H) ∙ high q c d H u_is.after_a) in
    let second = unique (LeafC x) d tt u_is.b_is (λ H. same (put q false H) ∙ low q c d H u_is.after_b) in
    absurd (u_is.differ (sym first ∙ second))
unique (TestC p a b) (LeafC y) t_is u_is same =
    let first = unique a (LeafC y) t_is.a_is tt (λ H. sym (high p a b H t_is.after_a) ∙ same (put p true H)) in
    let second = unique b (LeafC y) t_is.b_is tt (λ H. sym (low p a b H t_is.after_b) ∙ same (put p false H)) in
    absurd (t_is.differ (first ∙ sym second))
unique (TestC p a b) (TestC q c d) t_is u_is same =
    order_cases (path_order p q)
    (λ less.
    let after = after_test p q c d less u_is in
    let first = unique a (TestC q c d) t_is.a_is u_is (λ H. sym (high p a b H t_is.after_a) ∙ same (put p true H) ∙ put_after p true (TestC q c d) H after) in
    let second = unique b (TestC q c d) t_is.b_is u_is (λ H. sym (low p a b H t_is.after_b) ∙ same (put p false H) ∙ put_after p false (TestC q c d) H after) in
    absurd (t_is.differ (first ∙ sym second)))
    (λ equal.
    let e = equal_is p q equal in
    let as_p : (H : Held) → value_of (TestC q c d) H ≡ value_of (TestC p c d) H = λ H. ap (λ r. value_of (TestC r c d) H) (sym e) in
    let after_c = subst (λ r. IsAfter r c) (sym e) u_is.after_a in
    let after_d = subst (λ r. IsAfter r d) (sym e) u_is.after_b in
    let first = unique a c t_is.a_is u_is.a_is (λ H. sym (high p a b H t_is.after_a) ∙ same (put p true H) ∙ as_p (put p true H) ∙ high p c d H after_c) in
    let second = unique b d t_is.b_is u_is.b_is (λ H. sym (low p a b H t_is.after_b) ∙ same (put p false H) ∙ as_p (put p false H) ∙ low p c d H after_d) in
    λ i. TestC (e i) (first i) (second i))
    (λ greater.
    let after = after_test q p a b (greater_turned p q greater) t_is in
    let first = unique (TestC p a b) c t_is u_is.a_is (λ H. sym (put_after q true (TestC p a b) H after) ∙ same (put q true H) ∙ high q c d H u_is.after_a) in
    let second = unique (TestC p a b) d t_is u_is.b_is (λ H. sym (put_after q false (TestC p a b) H after) ∙ same (put q false H) ∙ low q c d H u_is.after_b) in
    absurd (u_is.differ (sym first ∙ second)))
