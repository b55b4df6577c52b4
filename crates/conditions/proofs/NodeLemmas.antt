-- A node of two canonical trees is canonical; a tree in two parts, by whether a path is held.
use Rattle.std.proofs.Common.{◌≡◌, Bool, true, false, refl, sym, ◌∙◌, ap, subst, if◌then◌else◌}
use Rattle.std.specs.declared.cmp.Ordering.{Ordering}
use Rattle.std.specs.declared.cmp.Ordering.TheVariants.{Less, Equal, Greater}
use Rattle.paths.specs.Paths.{PathData, path_order}
use Rattle.algebra.specs.declared.basic.Basic.{Basic}
use Rattle.algebra.specs.HeldPaths.{Held}
use Rattle.conditions.specs.Conditions.{Cond, TestC, value_of, IsAfter, IsCanonical, cond_eq}
use Rattle.conditions.specs.Operations.{node, by_order}
use Rattle.conditions.proofs.PathLemmas.{put, put_same}
use Rattle.conditions.proofs.CondLemmas.{cond_eq-is, is-cond_eq, after_test, put_after}

-- a canonical tree with these values
pub record Is (v : Held → Basic) (t : Cond) : Type 0 where
  pub canonical : IsCanonical t
  pub same : (H : Held) → value_of t H ≡ v H

-- a tree by whether a path is held: it has no test on a smaller path
pub record Parts (p : PathData) (t a b : Cond) : Type 0 where
  pub splits : (H : Held) → value_of t H ≡ (if H p then value_of a H else value_of b H)
  pub after_a : IsAfter p a
  pub after_b : IsAfter p b
  pub a_is : IsCanonical a
  pub b_is : IsCanonical b

same_either : (c : Bool) (x : Basic) → x ≡ (if c then x else x)
same_either true x = refl
same_either false x = refl

if_same : (c : Bool) (x y : Basic) → x ≡ y → x ≡ (if c then x else y)
if_same c x y e = same_either c x ∙ (λ i. if c then x else e i)

abbrev pub either : PathData → Cond → Cond → Held → Basic
either p a b H = if H p then value_of a H else value_of b H

pub node-is : (p : PathData) (a b : Cond) → IsAfter p a → IsAfter p b → IsCanonical a → IsCanonical b → Is (either p a b) (node p a b)
node-is p a b after_a after_b a_is b_is =
    elim (cond_eq a b) as (λ c. cond_eq a b ≡ c → Is (either p a b) (if c then a else TestC p a b)) [
      | true ↦ λ e. record { canonical = a_is; same = λ H. if_same (H p) (value_of a H) (value_of b H) (ap (λ t. value_of t H) (cond_eq-is a b e)) }
      | false ↦ λ e. record {
        canonical = record { after_a = after_a; after_b = after_b; differ = λ same. absurd (let no : false ≡ true = sym e ∙ is-cond_eq a b same in cc); a_is = a_is; b_is = b_is };
        same = λ H. refl;
      }
    ] refl

pub node-after : (q p : PathData) (a b : Cond) → path_order q p ≡ Less → IsAfter q a → IsAfter q b → IsAfter q (node p a b)
node-after q p a b less after_a after_b =
    elim (cond_eq a b) as (λ c. IsAfter q (if c then a else TestC p a b)) [ true ↦ after_a | false ↦ (less, after_a, after_b) ]

pub by_order-after : (q : PathData) (o : Ordering) (x y z : Cond) → IsAfter q x → IsAfter q y → IsAfter q z → IsAfter q (by_order o x y z)
by_order-after q Less x y z after_x after_y after_z = after_x
by_order-after q Equal x y z after_x after_y after_z = after_y
by_order-after q Greater x y z after_x after_y after_z = after_z

pub by_order-is : (v : Held → Basic) (o : Ordering) (x y z : Cond) → (o ≡ Less → Is v x) → (o ≡ Equal → Is v y) → (o ≡ Greater → Is v z) → Is v (by_order o x y z)
by_order-is v Less x y z less equal greater = less refl
by_order-is v Equal x y z less equal greater = equal refl
by_order-is v Greater x y z less equal greater = greater refl

-- a test
pub parts-test : (p : PathData) (a b : Cond) → IsCanonical (TestC p a b) → Parts p (TestC p a b) a b
parts-test p a b is = record { splits = λ H. refl; after_a = is.after_a; after_b = is.after_b; a_is = is.a_is; b_is = is.b_is }

-- a test on an equal path
pub parts-tied : (p q : PathData) (a b : Cond) → p ≡ q → IsCanonical (TestC q a b) → Parts p (TestC q a b) a b
parts-tied p q a b e is = record {
  splits = λ H. ap (λ r. if H r then value_of a H else value_of b H) (sym e);
  after_a = subst (λ r. IsAfter r a) (sym e) is.after_a;
  after_b = subst (λ r. IsAfter r b) (sym e) is.after_b;
  a_is = is.a_is;
  b_is = is.b_is;
}

-- a tree wholly after the path
pub parts-none : (p : PathData) (t : Cond) → IsAfter p t → IsCanonical t → Parts p t t t
parts-none p t after is = record { splits = λ H. same_either (H p) (value_of t H); after_a = after; after_b = after; a_is = is; b_is = is }

-- a test on a later path
pub parts-later : (p q : PathData) (a b : Cond) → path_order p q ≡ Less → IsCanonical (TestC q a b) → Parts p (TestC q a b) (TestC q a b) (TestC q a b)
parts-later p q a b less is = parts-none p (TestC q a b) (after_test p q a b less is) is

pub parts-high : (p : PathData) (t a b : Cond) → Parts p t a b → (H : Held) → value_of t (put p true H) ≡ value_of a H
parts-high p t a b parts H =
    parts.splits (put p true H)
    ∙ ap (λ v. if v then value_of a (put p true H) else value_of b (put p true H)) (put_same p true H)
    ∙ put_after p true a H parts.after_a

pub parts-low : (p : PathData) (t a b : Cond) → Parts p t a b → (H : Held) → value_of t (put p false H) ≡ value_of b H
parts-low p t a b parts H =
    parts.splits (put p false H)
    ∙ ap (λ v. if v then value_of a (put p false H) else value_of b (put p false H)) (put_same p false H)
    ∙ put_after p false b H parts.after_b
