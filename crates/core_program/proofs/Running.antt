-- What runs for a method and a class is the method itself, or overrides it: going up the classes, which ends.
use Rattle.std.proofs.Common.{◌≡◌, ◌<◌, ◌⊎◌, inl, inr, ℕ, zero, suc, Bool, true, false, ◌==◌, length, Option, Some, None, refl, sym, ap, subst, ◌∙◌}
use Rattle.std.specs.Prelude.{IfSome, slice_get}
use Rattle.std.specs.Option.{option_and_then}
use Rattle.std.proofs.lemmas.Bool.{eqb-true, eqb-false}
use Rattle.std.proofs.lemmas.Option.{none-some, same_Some, slice_get_within}
use Rattle.base.specs.Ancestors.{steps_up}
use Rattle.base.proofs.Going.{going_ends}
use Rattle.core_program.specs.Core.{Program, Class, Method}
use Rattle.core_program.specs.Dispatch.{above_in, above_of, partner, targets_in, target_of, inherited_target, IsOwn, Overrides}
use Rattle.core_program.specs.Typed.{own, overridden, inherited, IsTyped}

module _ (P : Program) (typed : IsTyped P) where
  -- the class above a class is there
  above_below : (c d : ℕ) → above_of P c ≡ Some d → d < length P.classes
  above_below c d is = in_class (slice_get P.classes c) refl is
    where
      in_class : (o : Option Class) → slice_get P.classes c ≡ o → above_in (slice_get P.classes c) ≡ Some d → d < length P.classes
      in_class None none e = absurd (none-some d (sym (ap above_in none) ∙ e))
      in_class (Some class) there e = subst (λ x. IfSome x (λ d. d < length P.classes)) (sym (ap above_in there) ∙ e) (typed.classes c class there).above

  -- what a method that is the class's own does where it runs for another
  own_over : (c m n : ℕ) → IsOwn P c n → target_of P c m ≡ Some n → (n ≡ m) ⊎ Overrides P n m
  own_over c m n (method, is, of_class) runs = by_same (n == m) refl
    where
      by_same : (b : Bool) → (n == m) ≡ b → (n ≡ m) ⊎ Overrides P n m
      by_same true e = inl (eqb-true n m e)
      by_same false e = inr (record { differs = eqb-false n m e; method = method; is = is; runs = ap (λ d. target_of P d m) of_class ∙ runs })

  above_is : (c : ℕ) (class : Class) → slice_get P.classes c ≡ Some class → above_of P c ≡ class.above
  above_is c class there = ap above_in there

  -- of a class from which so many steps up lead nowhere
  over_in : (n c m k : ℕ) → steps_up (above_of P) n c ≡ None → target_of P c m ≡ Some k → (k ≡ m) ⊎ Overrides P k m
  over_in zero c m k ends runs = absurd (none-some c (sym ends))
  over_in (suc n) c m k ends runs = in_class (slice_get P.classes c) refl (λ d above goes. over_in n d m k (sym (ap (λ o. option_and_then (λ x. steps_up (above_of P) n x) o) above) ∙ ends) goes)
    where
      in_class : (o : Option Class) → slice_get P.classes c ≡ o → ((d : ℕ) → above_of P c ≡ Some d → target_of P d m ≡ Some k → (k ≡ m) ⊎ Overrides P k m) → (k ≡ m) ⊎ Overrides P k m
      in_class None none further = absurd (none-some k (sym (ap (λ x. partner (targets_in x) m) none) ∙ runs))
      in_class (Some class) there further = elim ((typed.classes c class there).targets.each m k (sym (ap (λ x. partner (targets_in x) m) there) ∙ runs)) [
        | own mine same ↦ inl same
        | overridden some mine ↦ own_over c m k mine runs
        | inherited from ↦ from_above class.above refl from
      ]
        where
          from_above : (a : Option ℕ) → class.above ≡ a → inherited_target P a m ≡ Some k → (k ≡ m) ⊎ Overrides P k m
          from_above None is e = absurd (none-some k e)
          from_above (Some d) is e = further d (above_is c class there ∙ is) e

  pub itself_or_over : (c m n : ℕ) → target_of P c m ≡ Some n → (n ≡ m) ⊎ Overrides P n m
  itself_or_over c m n runs = in_class (slice_get P.classes c) refl
    where
      in_class : (o : Option Class) → slice_get P.classes c ≡ o → (n ≡ m) ⊎ Overrides P n m
      in_class None none = absurd (none-some n (sym (ap (λ x. partner (targets_in x) m) none) ∙ runs))
      in_class (Some class) there =
          over_in (length P.classes) c m n
          (going_ends (above_of P) (length P.classes) above_below (λ d round. apart d (slice_get P.classes d) refl round) c (slice_get_within P.classes c class there)) runs
        where
          apart : (d : ℕ) (o : Option Class) → slice_get P.classes d ≡ o → Rattle.base.specs.Ancestors.IsAncestor (above_of P) d d → ⊥
          apart d None none (k, is) = none-some d (sym (ap (λ o. option_and_then (λ x. steps_up (above_of P) k x) o) (ap above_in none)) ∙ is)
          apart d (Some class) there round = (typed.classes d class there).apart round

  -- a method that is there leaves a result where the one that runs for it does
  pub record SameResult (m n : ℕ) : Type 0 where
    pub same : (method running : Method) → slice_get P.methods m ≡ Some method → slice_get P.methods n ≡ Some running → running.result ≡ method.result

  pub same_result : (c m n : ℕ) → target_of P c m ≡ Some n → SameResult m n
  same_result c m n runs = elim (itself_or_over c m n runs) [
    | inl same ↦ record { same = λ method running is there. ap (λ (x : Method). x.result) (same_Some running method (sym there ∙ ap (slice_get P.methods) same ∙ is)) }
    | inr over ↦ record { same = λ method running is there. (typed.overriding n m running method over there is).result }
  ]
