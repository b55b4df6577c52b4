-- Three trees in parts by the least path that one of them tests first: two are at most the third exactly where their parts are.
use Rattle.std.proofs.Common.{◌≡◌, ◌⊎◌, inl, inr, ◌↔◌, Bool, true, false, Option, Some, None, Result, Ok, Err, IfOk, if◌then◌else◌, refl, sym, ◌∙◌, ap, subst}
use Rattle.std.proofs.lemmas.Option.{same_Some}
use Rattle.std.specs.declared.cmp.Ordering.{Ordering}
use Rattle.std.specs.declared.cmp.Ordering.TheVariants.{Less, Equal, Greater}
use Rattle.paths.specs.Paths.{PathData, path_order, path_eq}
use Rattle.paths.proofs.PathOrder.{equal_is, greater_turned, less_chain, eq_is, eq_itself}
use Rattle.algebra.specs.declared.basic.Basic.{Basic}
use Rattle.algebra.specs.Basics.{seq_of}
use Rattle.conditions.specs.Conditions.{Cond, LeafC, TestC, value_of, IsCanonical}
use Rattle.conditions.specs.Operations.{by_order}
use Rattle.conditions.proofs.PathLemmas.{put}
use Rattle.conditions.proofs.NodeLemmas.{Parts, parts-tied, parts-none, parts-later, parts-high, parts-low}
use Rattle.rules.specs.Rules.{AtMost}
use Rattle.book_check.specs.Pairs.{IsPairBelow, root_of, lesser_of, held_branch, free_branch}

-- a path is before a root, or is it
abbrev NotAfter : PathData → Option PathData → Type 0
NotAfter p None = Unit {0}
NotAfter p (Some q) = (path_order p q ≡ Less) ⊎ (p ≡ q)

not_after_chain : (p r : PathData) (o : Option PathData) → (path_order p r ≡ Less) ⊎ (p ≡ r) → NotAfter r o → NotAfter p o
not_after_chain p r None first second = tt
not_after_chain p r (Some q) (inl less) (inl later) = inl (less_chain p r q less later)
not_after_chain p r (Some q) (inl less) (inr same) = inl (subst (λ z. path_order p z ≡ Less) same less)
not_after_chain p r (Some q) (inr is) second = subst (λ z. NotAfter z (Some q)) (sym is) second

both_of : (p q r : PathData) (o : Ordering) → path_order p q ≡ o → by_order o (Some p) (Some p) (Some q) ≡ Some r → NotAfter r (Some p) × NotAfter r (Some q)
both_of p q r Less o e = (inr (sym (same_Some _ _ e)), subst (λ z. NotAfter z (Some q)) (same_Some _ _ e) (inl o))
both_of p q r Equal o e = (inr (sym (same_Some _ _ e)), inr (sym (same_Some _ _ e) ∙ equal_is p q o))
both_of p q r Greater o e = (subst (λ z. NotAfter z (Some p)) (same_Some _ _ e) (inl (greater_turned p q o)), inr (sym (same_Some _ _ e)))

lesser_some : (o k : Option PathData) (r : PathData) → lesser_of o k ≡ Some r → NotAfter r o × NotAfter r k
lesser_some None None r e = (tt, tt)
lesser_some None (Some q) r e = (tt, inr (sym (same_Some _ _ e)))
lesser_some (Some p) None r e = (inr (sym (same_Some _ _ e)), tt)
lesser_some (Some p) (Some q) r e = both_of p q r (path_order p q) refl e

none_of : (p q : PathData) (o : Ordering) → by_order o (Some p) (Some p) (Some q) ≡ None → ⊥
none_of p q Less e = absurd (cc)
none_of p q Equal e = absurd (cc)
none_of p q Greater e = absurd (cc)

lesser_none : (o k : Option PathData) → lesser_of o k ≡ None → (o ≡ None) × (k ≡ None)
lesser_none None k e = (refl, e)
lesser_none (Some p) None e = absurd (cc)
lesser_none (Some p) (Some q) e = absurd (none_of p q (path_order p q) e)

before_all : (o k n : Option PathData) (r : PathData) → lesser_of (lesser_of o k) n ≡ Some r → NotAfter r o × NotAfter r k × NotAfter r n
before_all o k n r e =
    let outer = lesser_some (lesser_of o k) n r e in
    let inner = elim (lesser_of o k) as (λ z. lesser_of o k ≡ z → NotAfter r z → NotAfter r o × NotAfter r k) [
      | None ↦ λ z after. let none = lesser_none o k z in (subst (λ x. NotAfter r x) (sym none.0) tt, subst (λ x. NotAfter r x) (sym none.1) tt)
      | Some s ↦ λ z after. let both = lesser_some o k s z in (not_after_chain r s o after both.0, not_after_chain r s k after both.1)
    ] refl outer.0 in (inner.0, inner.1, outer.1)

-- a tree in two parts by a path that it doesn't test later
split : (p : PathData) (t : Cond) → NotAfter p (root_of t) → IsCanonical t → Parts p t (held_branch p t) (free_branch p t)
split p (LeafC b) after is = parts-none p (LeafC b) tt tt
split p (TestC q a b) after is =
    elim (path_eq q p) as (λ c. path_eq q p ≡ c → Parts p (TestC q a b) (if c then a else TestC q a b) (if c then b else TestC q a b)) [
      | true ↦ λ e. parts-tied p q a b (sym (eq_is q p e)) is
      | false ↦ λ e. later after e
    ] refl
  where
    later : NotAfter p (Some q) → path_eq q p ≡ false → Parts p (TestC q a b) (TestC q a b) (TestC q a b)
    later (inl less) e = parts-later p q a b less is
    later (inr same) e = absurd (let no : true ≡ false = sym (eq_itself q) ∙ ap (λ z. path_eq q z) (sym same) ∙ e in cc)

below_if : (c : Bool) (x y z w u v : Basic) → AtMost (seq_of x z) u → AtMost (seq_of y w) v → AtMost (seq_of (if c then x else y) (if c then z else w)) (if c then u else v)
below_if true x y z w u v first second = first
below_if false x y z w u v first second = second

below_as : (x y z w u v : Basic) → x ≡ y → z ≡ w → u ≡ v → AtMost (seq_of x z) u → AtMost (seq_of y w) v
below_as x y z w u v first second third h = subst (λ k. AtMost (seq_of y w) k) third (subst (λ k. AtMost (seq_of y k) u) second (subst (λ k. AtMost (seq_of k z) u) first h))

-- three trees in parts by one path
pub record Split (p : PathData) (t u d : Cond) : Type 0 where
  pub first : Parts p t (held_branch p t) (free_branch p t)
  pub second : Parts p u (held_branch p u) (free_branch p u)
  pub third : Parts p d (held_branch p d) (free_branch p d)

abbrev pub IsBelowAt : Cond → Cond → Cond → Type 0
IsBelowAt t u d = IsPairBelow (value_of t) (value_of u) (value_of d)

split_all : (o : Option PathData) (p : PathData) (t u d : Cond) → o ≡ lesser_of (lesser_of (root_of t) (root_of u)) (root_of d) → o ≡ Some p → IsCanonical t → IsCanonical u → IsCanonical d → Split p t u d
split_all o p t u d least is t_is u_is d_is =
    let after = before_all (root_of t) (root_of u) (root_of d) p (sym least ∙ is) in
    record { first = split p t after.0 t_is; second = split p u after.1 u_is; third = split p d after.2 d_is }

pub pair_high : (p : PathData) (t u d : Cond) → Split p t u d → IsBelowAt t u d → IsBelowAt (held_branch p t) (held_branch p u) (held_branch p d)
pair_high p t u d s below = λ H.
    below_as _ _ _ _ _ _
    (parts-high p t (held_branch p t) (free_branch p t) s.first H) (parts-high p u (held_branch p u) (free_branch p u) s.second H)
    (parts-high p d (held_branch p d) (free_branch p d) s.third H) (below (put p true H))

pub pair_low : (p : PathData) (t u d : Cond) → Split p t u d → IsBelowAt t u d → IsBelowAt (free_branch p t) (free_branch p u) (free_branch p d)
pair_low p t u d s below = λ H.
    below_as _ _ _ _ _ _
    (parts-low p t (held_branch p t) (free_branch p t) s.first H) (parts-low p u (held_branch p u) (free_branch p u) s.second H)
    (parts-low p d (held_branch p d) (free_branch p d) s.third H) (below (put p false H))

pub pair_both : (p : PathData) (t u d : Cond) → Split p t u d → IsBelowAt (held_branch p t) (held_branch p u) (held_branch p d) →
    IsBelowAt (free_branch p t) (free_branch p u) (free_branch p d) → IsBelowAt t u d
pair_both p t u d s high low = λ H.
    below_as _ _ _ _ _ _ (sym (s.first.splits H)) (sym (s.second.splits H)) (sym (s.third.splits H))
    (below_if (H p) (value_of (held_branch p t) H) (value_of (free_branch p t) H) (value_of (held_branch p u) H) (value_of (free_branch p u) H)
    (value_of (held_branch p d) H) (value_of (free_branch p d) H) (high H) (low H))

-- the parts where the path is held aren't
pair_stops : (p : PathData) (t u d : Cond) (x : Bool) → Split p t u d → x ≡ false → (x ≡ true) ↔ IsBelowAt (held_branch p t) (held_branch p u) (held_branch p d) →
    (false ≡ true) ↔ IsBelowAt t u d
pair_stops p t u d x s fails test = (
  (λ e. absurd (let wrong : false ≡ true = e in cc)),
  (λ below. sym fails ∙ test.1 (pair_high p t u d s below)),
)

-- they are, so that those where it isn't decide
pair_goes : {E : Type 0} (p : PathData) (t u d : Cond) (x : Bool) (r : Result Bool E) → Split p t u d → x ≡ true →
    (x ≡ true) ↔ IsBelowAt (held_branch p t) (held_branch p u) (held_branch p d) →
    IfOk r (λ y. (y ≡ true) ↔ IsBelowAt (free_branch p t) (free_branch p u) (free_branch p d)) → IfOk r (λ y. (y ≡ true) ↔ IsBelowAt t u d)
pair_goes p t u d x (Ok y) s holds test rest = (
  (λ e. pair_both p t u d s (test.0 holds) (rest.0 e)),
  (λ below. rest.1 (pair_low p t u d s below)),
)
pair_goes p t u d x (Err e) s holds test rest = tt

-- the same of parts that are equal to these
pub high_stops : (o : Option PathData) (p : PathData) (t u d a b c : Cond) (x : Bool) → o ≡ lesser_of (lesser_of (root_of t) (root_of u)) (root_of d) → o ≡ Some p →
    IsCanonical t → IsCanonical u → IsCanonical d → a ≡ held_branch p t → b ≡ held_branch p u → c ≡ held_branch p d → x ≡ false → (x ≡ true) ↔ IsBelowAt a b c →
    (false ≡ true) ↔ IsBelowAt t u d
high_stops o p t u d a b c x least is t_is u_is d_is first second third fails test =
    pair_stops p t u d x (split_all o p t u d least is t_is u_is d_is) fails
    (subst (λ z. (x ≡ true) ↔ IsBelowAt (held_branch p t) (held_branch p u) z) third
    (subst (λ z. (x ≡ true) ↔ IsBelowAt (held_branch p t) z c) second (subst (λ z. (x ≡ true) ↔ IsBelowAt z b c) first test)))

pub low_decides : {E : Type 0} (o : Option PathData) (p : PathData) (t u d a b c k m n : Cond) (x : Bool) (r : Result Bool E) →
    o ≡ lesser_of (lesser_of (root_of t) (root_of u)) (root_of d) → o ≡ Some p →
    IsCanonical t → IsCanonical u → IsCanonical d → a ≡ held_branch p t → b ≡ held_branch p u → c ≡ held_branch p d →
    k ≡ free_branch p t → m ≡ free_branch p u → n ≡ free_branch p d → x ≡ true → (x ≡ true) ↔ IsBelowAt a b c →
    IfOk r (λ y. (y ≡ true) ↔ IsBelowAt k m n) → IfOk r (λ y. (y ≡ true) ↔ IsBelowAt t u d)
low_decides o p t u d a b c k m n x r least is t_is u_is d_is first second third fourth fifth sixth holds test rest =
    pair_goes p t u d x r (split_all o p t u d least is t_is u_is d_is) holds
    (subst (λ z. (x ≡ true) ↔ IsBelowAt (held_branch p t) (held_branch p u) z) third
    (subst (λ z. (x ≡ true) ↔ IsBelowAt (held_branch p t) z c) second (subst (λ z. (x ≡ true) ↔ IsBelowAt z b c) first test)))
    (subst (λ z. IfOk r (λ y. (y ≡ true) ↔ IsBelowAt (free_branch p t) (free_branch p u) z)) sixth
    (subst (λ z. IfOk r (λ y. (y ≡ true) ↔ IsBelowAt (free_branch p t) z n)) fifth (subst (λ z. IfOk r (λ y. (y ≡ true) ↔ IsBelowAt z m n)) fourth rest)))

-- parts are canonical
pub branch_known : (p : PathData) (t : Cond) → IsCanonical t → IsCanonical (held_branch p t) × IsCanonical (free_branch p t)
branch_known p (LeafC b) is = (tt, tt)
branch_known p (TestC q a b) is =
    elim (path_eq q p) as (λ c. IsCanonical (if c then a else TestC q a b) × IsCanonical (if c then b else TestC q a b)) [ true ↦ (is.a_is, is.b_is) | false ↦ (is, is) ]
