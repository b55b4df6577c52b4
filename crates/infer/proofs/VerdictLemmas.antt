-- Bounds, one method at a time.
use Rattle.std.proofs.Common.{◌≡◌, ℕ, ◌+◌, ◌<◌, ◌≤◌, Bool, true, false, List, length, map, get_or, slice_get, Some, refl, sym, ap, subst, ◌∙◌, arith}
use Rattle.std.specs.Prelude.{nat_lt}
use Rattle.std.proofs.lemmas.Bool.Decides.{nat_tests}
use Rattle.std.proofs.lemmas.Option.{slice_get-get_or, slice_get_within}
use Rattle.std.proofs.lemmas.Bool.{both_ways}
use Rattle.algebra.specs.declared.basic.Basic.{Basic}
use Rattle.algebra.specs.Basics.{below_of}
use Rattle.algebra.specs.HeldPaths.{Held, has_path}
use Rattle.core_program.specs.declared.program.CoreMethod.{CoreMethod}
use Rattle.core_program.specs.Core.{Program, Method}
use Rattle.core_program.specs.Typed.{IsTyped}
use Rattle.core_program.specs.Views.{method_of}
use Rattle.rules.specs.Near.{MethodPaths, AreRelevant, AreFew, rel_of}
use Rattle.rules.specs.Effect.{Assignment}
use Rattle.rules.specs.Rules.{HoldsBound, IsAccepted, declared_bound}
use Rattle.infer.specs.Least.{IsLeast}
use Rattle.infer.specs.Verdicts.{basic_at, assignment_of, IsFirstBroken, IsBrokenByAll, HoldBounds}
use Rattle.infer.proofs.LeastLemmas.{least_bound, least_accepts}
use Rattle.rules.proofs.CallerLookups.{found_method}
use Rattle.rules.proofs.Required.{required_in_rel}
use Rattle.rules.proofs.CallerLookups.{same_count}

-- what is seen of one method
pub record Seen (P : Program) (A : Assignment) (m : ℕ) (method : Method) (declared found : Basic) : Type 0 where
  pub is : slice_get P.methods m ≡ Some method
  pub declared_is : declared ≡ declared_bound method.annotated
  pub found_is : found ≡ A m (has_path method.requires_)

pub value_at : {S A : Type 0} (v : S → A → Held → Basic) (store : S) (values : List A) (m count : ℕ) (x : A) (H : Held) → length values ≡ count → m < count → x ≡ get_or values m x → v store x H ≡ assignment_of v store values m H
value_at v store values m count x H all below is =
    let there = slice_get-get_or values m x (omega (arith, all, below)) in
    ap (λ o. basic_at v store o H) (ap Some is ∙ sym there)

module _ (P : Program) (A : Assignment) (xs : List CoreMethod) (all : map method_of xs ≡ P.methods) where
  pub seen : (m : ℕ) (x : CoreMethod) (declared found : Basic) → m < length xs → x ≡ get_or xs m x → declared ≡ declared_bound x.annotated → found ≡ A m (has_path x.requires_.items)
      → Seen P A m (method_of x) declared found
  seen m x declared found below is declared_is found_is = record {
    is = found_method xs P.methods m x all below is;
    declared_is = declared_is;
    found_is = found_is;
  }

  pub bounds_all : (m : ℕ) → length xs ≤ m → ((k : ℕ) (earlier : Method) → k < m → slice_get P.methods k ≡ Some earlier → HoldsBound A k earlier) → HoldBounds P A
  bounds_all m past hold k method is = hold k method (let w = slice_get_within P.methods k method is in omega (arith, w, same_count xs P.methods all, past)) is

module _ (P : Program) (A : Assignment) (m : ℕ) (method : Method) (declared found : Basic) (seen_here : Seen P A m method declared found) where
  -- its bound is broken
  pub first_broken : below_of found declared ≡ false → ((k : ℕ) (earlier : Method) → k < m → slice_get P.methods k ≡ Some earlier → HoldsBound A k earlier) → IsFirstBroken P A m declared found
  first_broken breaks hold = record {
    method = method;
    is = seen_here.is;
    declared_is = seen_here.declared_is;
    found_is = seen_here.found_is;
    breaks = breaks;
    first = hold;
  }

  -- its bound holds
  holds : below_of found declared ≡ true → HoldsBound A m method
  holds low = (λ i. below_of (sym seen_here.found_is i) (sym seen_here.declared_is i)) ∙ low

  bound_at : below_of found declared ≡ true → ((k : ℕ) (earlier : Method) → k < m → slice_get P.methods k ≡ Some earlier → HoldsBound A k earlier)
      → (k : ℕ) (earlier : Method) (b : Bool) → nat_lt k m ≡ b → k < m + 1 → slice_get P.methods k ≡ Some earlier → HoldsBound A k earlier
  bound_at low hold k earlier true test below is = hold k earlier (grind (arith, nat_tests)) is
  bound_at low hold k earlier false test below is =
      let past : m ≤ k = grind (arith, nat_tests) in
      let place : m ≡ k = omega arith in
      let same : method ≡ earlier = (let e = sym seen_here.is ∙ ap (λ n. slice_get P.methods n) place ∙ is in cc) in
      subst (λ x. HoldsBound A k x) same (subst (λ n. HoldsBound A n method) place (holds low))

  pub bounds_more : below_of found declared ≡ true → ((k : ℕ) (earlier : Method) → k < m → slice_get P.methods k ≡ Some earlier → HoldsBound A k earlier)
      → (k : ℕ) (earlier : Method) → k < m + 1 → slice_get P.methods k ≡ Some earlier → HoldsBound A k earlier
  bounds_more low hold k earlier below is = bound_at low hold k earlier (nat_lt k m) refl below is

module _ (P : Program) (A : Assignment) (typed : IsTyped P) (m : ℕ) (declared found : Basic) (broken : IsFirstBroken P A m declared found) where
  breaks_bound : HoldsBound A m broken.method → ⊥
  breaks_bound holds_bound = both_ways (below_of found declared) broken.breaks ((λ i. below_of (broken.found_is i) (broken.declared_is i)) ∙ holds_bound)

  -- a first broken method refutes
  pub not_accepted : (sets : List MethodPaths) → AreRelevant P sets → AreFew sets → IsLeast P (rel_of sets) A → IsAccepted P → ⊥
  not_accepted sets relevant few least accepted = breaks_bound ((least_accepts P sets A typed relevant few least).1 accepted m broken.method broken.is)

  pub broken_by_all : (sets : List MethodPaths) → AreRelevant P sets → IsLeast P (rel_of sets) A → IsBrokenByAll P (rel_of sets) m
  broken_by_all sets relevant least = record {
    method = broken.method;
    is = broken.is;
    breaks = λ B falling closed bound.
        breaks_bound (least_bound P (rel_of sets) (λ k x at. required_in_rel P sets relevant typed k x at) A least B falling closed m broken.method broken.is bound);
  }
