-- Marks along what classes extend: classes of one kind have one mark, and so has an object's class and the class of the method that runs for it.
use Rattle.std.proofs.Common.{◌≡◌, ◌<◌, ℕ, zero, suc, Bool, true, false, ◌==◌, ◌||◌, length, Option, Some, None, refl, sym, ap, subst, ◌∙◌}
use Rattle.std.specs.Prelude.{IfSome, slice_get}
use Rattle.std.specs.Option.{option_and_then}
use Rattle.std.proofs.lemmas.Bool.{eqb-true}
use Rattle.std.proofs.lemmas.Option.{none-some, same_Some, slice_get_within}
use Rattle.base.specs.Ancestors.{steps_up, reaches, IsAncestor}
use Rattle.base.proofs.Going.{going_ends}
use Rattle.core_program.specs.Core.{Program, Class, Method}
use Rattle.core_program.specs.Dispatch.{above_in, above_of, is_kind_of, partner, targets_in, target_of, inherited_target, IsOwn}
use Rattle.core_program.specs.Typed.{own, overridden, inherited, IsTyped}
use Rattle.levels.specs.SlotTypes.{AreMarked}

module _ (P : Program) (mark : ℕ → ℕ) (marked : AreMarked P mark) where
  one_marked : (c d : ℕ) → (c == d) ≡ true → mark c ≡ mark d
  one_marked c d same = ap mark (eqb-true c d same)

  reaches_marked : (n c d : ℕ) → reaches (above_of P) n (Some c) d ≡ true → mark c ≡ mark d
  reaches_marked zero c d is = one_marked c d is
  reaches_marked (suc n) c d is = by_same (c == d) refl is (λ e leads above. marked c e above ∙ reaches_marked n e d leads)
    where
      from_above : (o : Option ℕ) → above_of P c ≡ o → reaches (above_of P) n o d ≡ true → ((e : ℕ) → reaches (above_of P) n (Some e) d ≡ true → above_of P c ≡ Some e → mark c ≡ mark d) → mark c ≡ mark d
      from_above None above leads further = absurd (let e : false ≡ true = leads in cc)
      from_above (Some e) above leads further = further e leads above

      by_same : (b : Bool) → (c == d) ≡ b → (b || reaches (above_of P) n (above_of P c) d) ≡ true → ((e : ℕ) → reaches (above_of P) n (Some e) d ≡ true → above_of P c ≡ Some e → mark c ≡ mark d) → mark c ≡ mark d
      by_same true same leads further = one_marked c d same
      by_same false other leads further = from_above (above_of P c) refl leads further

  -- a class of the kind of another has its mark
  pub kind_marked : (c d : ℕ) → is_kind_of P c d ≡ true → mark c ≡ mark d
  kind_marked c d is = reaches_marked (length P.classes) c d is

  module _ (typed : IsTyped P) where
    above_below : (c d : ℕ) → above_of P c ≡ Some d → d < length P.classes
    above_below c d is = in_class (slice_get P.classes c) refl is
      where
        in_class : (o : Option Class) → slice_get P.classes c ≡ o → above_in (slice_get P.classes c) ≡ Some d → d < length P.classes
        in_class None none e = absurd (none-some d (sym (ap above_in none) ∙ e))
        in_class (Some class) there e = subst (λ x. IfSome x (λ d. d < length P.classes)) (sym (ap above_in there) ∙ e) (typed.classes c class there).above

    -- the class of a method, where it is there, has the mark of this class
    abbrev pub OwnMark : ℕ → ℕ → Type 0
    OwnMark c n = (running : Method) → slice_get P.methods n ≡ Some running → mark running.class ≡ mark c

    own_mark : (c n : ℕ) → IsOwn P c n → OwnMark c n
    own_mark c n (method, is, of_class) running there = ap (λ (m : Method). mark m.class) (same_Some running method (sym there ∙ is)) ∙ ap mark of_class

    target_in : (k c m n : ℕ) → steps_up (above_of P) k c ≡ None → target_of P c m ≡ Some n → OwnMark c n
    target_in zero c m n ends runs = absurd (none-some c (sym ends))
    target_in (suc k) c m n ends runs = in_class (slice_get P.classes c) refl
        (λ d above goes running there. target_in k d m n (sym (ap (λ o. option_and_then (λ x. steps_up (above_of P) k x) o) above) ∙ ends) goes running there ∙ sym (marked c d above))
      where
        in_class : (o : Option Class) → slice_get P.classes c ≡ o → ((d : ℕ) → above_of P c ≡ Some d → target_of P d m ≡ Some n → OwnMark c n) → OwnMark c n
        in_class None none further = absurd (none-some n (sym (ap (λ x. partner (targets_in x) m) none) ∙ runs))
        in_class (Some class) there further = elim ((typed.classes c class there).targets.each m n (sym (ap (λ x. partner (targets_in x) m) there) ∙ runs)) [
          | own mine same ↦ own_mark c n (subst (IsOwn P c) (sym same) mine)
          | overridden some mine ↦ own_mark c n mine
          | inherited from ↦ from_above class.above refl from
        ]
          where
            from_above : (a : Option ℕ) → class.above ≡ a → inherited_target P a m ≡ Some n → OwnMark c n
            from_above None is e = absurd (none-some n e)
            from_above (Some d) is e = further d (ap above_in there ∙ is) e

    -- the class of the method that runs for a class has that class's mark
    pub target_marked : (c m n : ℕ) → target_of P c m ≡ Some n → OwnMark c n
    target_marked c m n runs = in_class (slice_get P.classes c) refl
      where
        in_class : (o : Option Class) → slice_get P.classes c ≡ o → OwnMark c n
        in_class None none = absurd (none-some n (sym (ap (λ x. partner (targets_in x) m) none) ∙ runs))
        in_class (Some class) there =
            target_in (length P.classes) c m n
            (going_ends (above_of P) (length P.classes) above_below (λ d round. apart d (slice_get P.classes d) refl round) c (slice_get_within P.classes c class there)) runs
          where
            apart : (d : ℕ) (o : Option Class) → slice_get P.classes d ≡ o → IsAncestor (above_of P) d d → ⊥
            apart d None none (k, is) = none-some d (sym (ap (λ o. option_and_then (λ x. steps_up (above_of P) k x) o) (ap above_in none)) ∙ is)
            apart d (Some class) there round = (typed.classes d class there).apart round
