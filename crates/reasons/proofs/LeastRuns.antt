-- The least closed assignment of a method is at most what its body and the methods that override it come to: else it could be lowered.
use Rattle.std.proofs.Common.{◌≡◌, ℕ, Bool, true, false, ◌==◌, List, Some, slice_get, refl, sym, ap, subst, ◌∙◌, if◌then◌else◌}
use Rattle.std.specs.List.{list_all}
use Rattle.std.proofs.lemmas.Bool.{and_from, eqb-true, eq-eqb}
use Rattle.std.proofs.lemmas.Option.{same_Some}
use Rattle.base.proofs.Lists.{all_at}
use Rattle.paths.specs.Paths.{PathData}
use Rattle.algebra.specs.declared.basic.Basic.{Basic}
use Rattle.algebra.specs.declared.basic.Basic.TheVariants.{Const, Mover, Atomic, Cmpd, Error}
use Rattle.algebra.specs.Basics.{below_of}
use Rattle.algebra.specs.HeldPaths.{Held, has_path}
use Rattle.core_program.specs.Core.{Program, Method}
use Rattle.core_program.specs.Dispatch.{Overrides}
use Rattle.infer.specs.Least.{IsLeast}
use Rattle.rules.specs.Effect.{Assignment, effect}
use Rattle.rules.specs.Overriding.{AreOverriders}
use Rattle.rules.specs.Rules.{AtMost, IsSubset, IsAntitone, IsClosed, declared_bound, held_in}
use Rattle.rules.specs.Search.{row_at}
use Rattle.rules.proofs.BasicLemmas.{below_chain, below_itself}
use Rattle.rules.proofs.EffectRises.{stmt_rises}
use Rattle.rules.proofs.Falling.{stmt_falls}
use Rattle.rules.proofs.SetLemmas.{all_has, has_all, all_part, first, second}
use Rattle.explain.specs.Grounds.{lesser}
use Rattle.explain.specs.Meanings.{are_within}

-- ---- the lesser of two basics

pub either_way : (a b : Basic) → below_of a b ≡ false → below_of b a ≡ true
either_way Const Const e = absurd cc
either_way Const Mover e = absurd cc
either_way Const Atomic e = absurd cc
either_way Const Cmpd e = absurd cc
either_way Const Error e = absurd cc
either_way Mover Const e = refl
either_way Mover Mover e = absurd cc
either_way Mover Atomic e = absurd cc
either_way Mover Cmpd e = absurd cc
either_way Mover Error e = absurd cc
either_way Atomic Const e = refl
either_way Atomic Mover e = refl
either_way Atomic Atomic e = absurd cc
either_way Atomic Cmpd e = absurd cc
either_way Atomic Error e = absurd cc
either_way Cmpd Const e = refl
either_way Cmpd Mover e = refl
either_way Cmpd Atomic e = refl
either_way Cmpd Cmpd e = absurd cc
either_way Cmpd Error e = absurd cc
either_way Error Const e = refl
either_way Error Mover e = refl
either_way Error Atomic e = refl
either_way Error Cmpd e = refl
either_way Error Error e = absurd cc

pub lesser_first : (a b : Basic) → AtMost (lesser a b) a
lesser_first a b = by (below_of a b) refl
  where
    by : (t : Bool) → below_of a b ≡ t → AtMost (if t then a else b) a
    by true is = below_itself a
    by false is = either_way a b is

pub lesser_second : (a b : Basic) → AtMost (lesser a b) b
lesser_second a b = by (below_of a b) refl
  where
    by : (t : Bool) → below_of a b ≡ t → AtMost (if t then a else b) b
    by true is = is
    by false is = below_itself b

pub below_lesser : (x a b : Basic) → AtMost x a → AtMost x b → AtMost x (lesser a b)
below_lesser x a b low high = by (below_of a b)
  where
    by : (t : Bool) → AtMost x (if t then a else b)
    by true = low
    by false = high

pub bound_atomic : (annotated : Bool) → AtMost Atomic (declared_bound annotated)
bound_atomic true = refl
bound_atomic false = refl

-- ---- sets

pub in_rel : (rel : List PathData) (H : Held) → IsSubset (held_in rel H) (has_path rel)
in_rel rel H q e = first (has_path rel q) (H q) e

pub in_more : (rel : List PathData) (H K : Held) → IsSubset H K → IsSubset (held_in rel H) (held_in rel K)
in_more rel H K part q e = and_from (has_path rel q) (K q) (first (has_path rel q) (H q) e) (part q (second (has_path rel q) (H q) e))

module _ (P : Program) (rel : ℕ → List PathData) (A : Assignment) (rows : List (List ℕ)) (least : IsLeast P rel A) (are : AreOverriders P rows)
    (m : ℕ) (method : Method) (there : slice_get P.methods m ≡ Some method) (inside : IsSubset (has_path method.requires_) (has_path (rel m)))
    (limit : Basic) (fits : are_within P rel A (row_at rows m) method limit ≡ true) where
  abbrev begun : Held
  begun = has_path method.requires_

  abbrev over_test : ℕ → Bool
  over_test n = below_of (A n (held_in (rel n) begun)) limit

  body_fits : AtMost (effect P rel A method.body begun) limit
  body_fits = first (below_of (effect P rel A method.body begun) limit) (list_all over_test (row_at rows m)) fits

  over_fits : (over : ℕ) → Overrides P over m → AtMost (A over (held_in (rel over) begun)) limit
  over_fits over o =
      all_at over_test (row_at rows m) (second (below_of (effect P rel A method.body begun) limit) (list_all over_test (row_at rows m)) fits) over ((are m over).1 o)

  -- what is assigned, lowered to the limit at this method where its required paths are held
  abbrev lowered_if : (here has : Bool) → Basic → Basic
  lowered_if true true b = lesser b limit
  lowered_if true false b = b
  lowered_if false has b = b

  abbrev lowered : Assignment
  lowered k H = lowered_if (k == m) (list_all H method.requires_) (A k H)

  low_if : (here has : Bool) (b : Basic) → AtMost (lowered_if here has b) b
  low_if true true b = lesser_first b limit
  low_if true false b = below_itself b
  low_if false has b = below_itself b

  low : (k : ℕ) (H : Held) → AtMost (lowered k H) (A k H)
  low k H = low_if (k == m) (list_all H method.requires_) (A k H)

  -- what is at most what is assigned, and at most the limit at this method where its required paths are held, is at most what is lowered
  below_if : (here has : Bool) (x b : Basic) → AtMost x b → (here ≡ true → has ≡ true → AtMost x limit) → AtMost x (lowered_if here has b)
  below_if true true x b below small = below_lesser x b limit below (small refl refl)
  below_if true false x b below small = below
  below_if false has x b below small = below

  limited_if : (here has : Bool) (b : Basic) → here ≡ true → has ≡ true → AtMost (lowered_if here has b) limit
  limited_if true true b h k = lesser_second b limit
  limited_if true false b h k = absurd cc
  limited_if false has b h k = absurd cc

  falls : IsAntitone rel lowered
  falls k H K within part =
      below_if (k == m) (list_all H method.requires_) (lowered k K) (A k H)
      (below_chain (lowered k K) (A k K) (A k H) (low k K) (least.falling k H K within part))
      (λ here has. limited_if (k == m) (list_all K method.requires_) (A k K) here (all_part H K part method.requires_ has))

  -- the effect of the method's body at a set with its required paths
  body_small : (H : Held) → list_all H method.requires_ ≡ true → AtMost (effect P rel A method.body H) limit
  body_small H has =
      below_chain (effect P rel A method.body H) (effect P rel A method.body begun) limit
      (stmt_falls P rel A least.falling method.body begun H (all_has method.requires_ H has)) body_fits

  over_small : (over : ℕ) → Overrides P over m → (H : Held) → list_all H method.requires_ ≡ true → AtMost (A over (held_in (rel over) H)) limit
  over_small over o H has =
      below_chain (A over (held_in (rel over) H)) (A over (held_in (rel over) begun)) limit
      (least.falling over (held_in (rel over) begun) (held_in (rel over) H) (in_rel (rel over) H) (in_more (rel over) begun H (all_has method.requires_ H has)))
      (over_fits over o)

  same_method : (k : ℕ) (other : Method) → slice_get P.methods k ≡ Some other → (k == m) ≡ true → method ≡ other
  same_method k other is here = same_Some method other (sym there ∙ ap (slice_get P.methods) (sym (eqb-true k m here)) ∙ is)

  closed : IsClosed P rel lowered
  closed = record {
    bodies = λ k other is H part has.
        let risen = below_chain (effect P rel lowered other.body H) (effect P rel A other.body H) (A k H)
        (stmt_rises P rel lowered A (λ n K inner. low n K) other.body H) (least.closed.bodies k other is H part has) in
        below_if (k == m) (list_all H method.requires_) (effect P rel lowered other.body H) (A k H) risen
        (λ here held. below_chain (effect P rel lowered other.body H) (effect P rel A other.body H) limit
        (stmt_rises P rel lowered A (λ n K inner. low n K) other.body H)
        (subst (λ (o : Method). AtMost (effect P rel A o.body H) limit) (same_method k other is here) (body_small H held)));
    overrides = λ k over other is o H part has.
        below_if (k == m) (list_all H method.requires_) (lowered over (held_in (rel over) H)) (A k H)
        (below_chain (lowered over (held_in (rel over) H)) (A over (held_in (rel over) H)) (A k H) (low over (held_in (rel over) H)) (least.closed.overrides k over other is o H part has))
        (λ here held. below_chain (lowered over (held_in (rel over) H)) (A over (held_in (rel over) H)) limit
        (low over (held_in (rel over) H)) (over_small over (subst (Overrides P over) (eqb-true k m here) o) H held));
  }

  pub within : AtMost (A m begun) limit
  within =
      below_chain (A m begun) (lowered m begun) limit (least.below lowered falls closed m begun inside)
      (limited_if (m == m) (list_all begun method.requires_) (A m begun) (eq-eqb m m refl) (has_all method.requires_ begun (λ q has. has)))
