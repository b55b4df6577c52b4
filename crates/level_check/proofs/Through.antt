-- What overrides a method that overrides another overrides that one too, or is it. So it is along rows of methods that override others next.
use Rattle.std.proofs.Common.{◌≡◌, inl, inr, ℕ, zero, suc, ◌==◌, Bool, true, false, List, length, Option, Some, None, refl, sym, ap, subst, ◌∙◌, if◌then◌else◌}
use Rattle.std.specs.Prelude.{IsSome, option_and_then, option_map, slice_get}
use Rattle.std.proofs.lemmas.Bool.{eqb-true, or_cases}
use Rattle.std.proofs.lemmas.Option.{same_Some, slice_get-map}
use Rattle.base.proofs.Options.{if_taken, some_there, then_parts}
use Rattle.core_program.specs.declared.program.CoreMethod.{CoreMethod}
use Rattle.core_program.specs.declared.program.CoreProgram.{CoreProgram}
use Rattle.core_program.specs.Core.{Method}
use Rattle.core_program.specs.Dispatch.{partner, targets_in, target_of, inherited_target, Overrides}
use Rattle.core_program.specs.Pairs.{KeptClass, is_own_of, is_own_up, has_or_inherits, runs_for, target_in, class_with_pairs}
use Rattle.core_program.specs.Overridden.{class_owning, owner}
use Rattle.core_program.specs.Typed.{IsTyped}
use Rattle.core_program.specs.Views.{method_of, kept_classes, program_of}
use Rattle.core_program.proofs.Climbing.{own_at, own_nowhere}
use Rattle.core_program.proofs.OverridesLemmas.{IsOver, is_over, overrides_one, target_is}
use Rattle.rules.specs.Nearest.{LeadTo, near, further, AreNearest}
use Rattle.levels.specs.Contexts.{MayRun}

is_some : {A : Type 0} (o : Option A) (x : A) → o ≡ Some x → IsSome o
is_some o x e = subst (λ z. IsSome z) (sym e) refl

module _ (p : CoreProgram) (typed : IsTyped (program_of p)) where
  abbrev parts : List KeptClass
  parts = kept_classes p

  abbrev names : List ℕ
  names = p.names.items

  abbrev count : ℕ
  count = length (kept_classes p)

  class_there : (k : ℕ) (c : KeptClass) → slice_get parts k ≡ Some c → slice_get (program_of p).classes k ≡ Some (class_with_pairs parts names c)
  class_there k c there = slice_get-map (class_with_pairs parts names) parts k ∙ ap (option_map (class_with_pairs parts names)) there

  -- the class of an own method
  owned_by : (k m name j : ℕ) (c : KeptClass) → slice_get parts k ≡ Some c → is_own_of m c ≡ true → slice_get names m ≡ Some name → owner p m ≡ Some j → k ≡ j
  owned_by k m name j c there mine named owned =
      same_Some k j (sym (p.owned k c there m name mine named) ∙ slice_get-map (λ (x : CoreMethod). x.class) p.methods.items m
      ∙ by_method (slice_get p.methods.items m) ∙ ap (option_map (λ (x : Method). x.class)) (sym (slice_get-map method_of p.methods.items m)) ∙ owned)
    where
      by_method : (o : Option CoreMethod) → option_map (λ (x : CoreMethod). x.class) o ≡ option_map (λ (x : Method). x.class) (option_map method_of o)
      by_method None = refl
      by_method (Some x) = refl

  -- a class has what a class above has, which has this method as its own
  module _ (k m at : ℕ) (name : ℕ) (named : slice_get names k ≡ Some name) (owned : owner p k ≡ Some at) (has : IsSome (target_of (program_of p) at m)) where
    inherits : (n : ℕ) (from : Option ℕ) → is_own_up parts names n from k ≡ true → IsSome (inherited_target (program_of p) from m)
    inherits zero from up = absurd (let e : false ≡ true = up in cc)
    inherits (suc n) None up = absurd (let e : false ≡ true = up in cc)
    inherits (suc n) (Some i) up = in_class (slice_get parts i) refl (λ from later. inherits n from later)
      where
        in_class : (o : Option KeptClass) → slice_get parts i ≡ o → ((from : Option ℕ) → is_own_up parts names n from k ≡ true → IsSome (inherited_target (program_of p) from m)) → IsSome (target_of (program_of p) i m)
        in_class None gone above = absurd (let e : false ≡ true = sym (own_nowhere parts names (suc n) i k gone) ∙ up in cc)
        in_class (Some c) there above = elim (or_cases (is_own_of k c) (is_own_up parts names n c.above k) (sym (own_at parts names n i k c there) ∙ up)) as (λ _. IsSome (target_of (program_of p) i m)) [
          | inl mine ↦ subst (λ z. IsSome (target_of (program_of p) z m)) (sym (owned_by i k name at c there mine named owned)) has
          | inr later ↦
              let class = class_with_pairs parts names c in
              let is = class_there i c there in
              subst (λ o. IsSome (partner (targets_in o) m)) (sym is) ((typed.classes i class is).targets.all_inherited m (above c.above later))
        ]

  -- the class of a method that overrides
  class_at : (j k : ℕ) (o : Overrides (program_of p) j k) (i : IsOver p j k) → (is_own_of j i.class ≡ true) × (slice_get parts o.method.class ≡ Some i.class)
  class_at j k o i =
      let owned = ap (option_map (λ (x : Method). x.class)) o.is in
      let found = then_parts (class_owning j) (slice_get parts o.method.class) i.class (sym (ap (option_and_then (λ z. option_and_then (class_owning j) (slice_get parts z))) owned) ∙ i.of_class) in
      let own = if_taken (is_own_of j found.0) (Some found.0) i.class found.2 in
      let same = same_Some found.0 i.class own.1 in
      (subst (λ z. is_own_of j z ≡ true) same own.0, found.1 ∙ ap Some same)

  over_through : (j k m : ℕ) → Overrides (program_of p) j k → Overrides (program_of p) k m → MayRun (program_of p) j m
  over_through j k m first second = by_test (m == j) refl
    where
      i : IsOver p j k
      i = is_over p j k first

      h : IsOver p k m
      h = is_over p k m second

      other : slice_get names m ≡ Some i.name
      other = h.other ∙ sym h.named ∙ i.other

      at : ℕ
      at = first.method.class

      there : slice_get parts at ≡ Some i.class
      there = (class_at j k first i).1

      -- the class of the first has the last
      has : IsSome (target_of (program_of p) at m)
      has =
          let class = class_with_pairs parts names i.class in
          let is = class_there at i.class there in
          subst (λ o. IsSome (partner (targets_in o) m)) (sym is)
          ((typed.classes at class is).targets.all_inherited m
          (inherits k m second.method.class i.name i.other (ap (option_map (λ (x : Method). x.class)) second.is) (is_some (target_of (program_of p) second.method.class m) k second.runs) count i.class.above i.up))

      either : has_or_inherits parts names i.class m ≡ true
      either =
          let target = some_there (target_of (program_of p) at m) has in
          let own = then_parts (λ c. target_in parts names c m) (slice_get parts at) target.0 (sym (target_is p at m) ∙ target.1) in
          let name = then_parts (λ n. if has_or_inherits parts names own.0 m then Some (runs_for parts names own.0 m n) else None) (slice_get names m) target.0 own.2 in
          subst (λ c. has_or_inherits parts names c m ≡ true) (same_Some own.0 i.class (sym own.1 ∙ there)) (if_taken (has_or_inherits parts names own.0 m) (Some (runs_for parts names own.0 m name.0)) target.0 name.2).0

      by_test : (b : Bool) → (m == j) ≡ b → MayRun (program_of p) j m
      by_test true same = inl (sym (eqb-true m j same))
      by_test false apart = elim (or_cases (is_own_of m i.class) (is_own_up parts names count i.class.above m) either) as (λ _. MayRun (program_of p) j m) [
        | inl mine ↦ inl (same_Some j m (sym (p.named at i.class there j i.name (class_at j k first i).0 i.named) ∙ p.named at i.class there m i.name mine other))
        | inr up ↦ inr (overrides_one p j m i.name i.class i.of_class i.named other up apart)
      ]

  -- what the rows lead to from a method may run for it
  pub led_runs : (rows : List (List ℕ)) → AreNearest (program_of p) rows → (m k : ℕ) → LeadTo rows m k → MayRun (program_of p) k m
  led_runs rows nearest m k (near has) = inr (nearest.sound m k has)
  led_runs rows nearest m k (further middle leads has) = elim (led_runs rows nearest m middle leads) as (λ _. MayRun (program_of p) k m) [
    | inl same ↦ inr (subst (λ z. Overrides (program_of p) k z) same (nearest.sound middle k has))
    | inr over ↦ over_through k middle m (nearest.sound middle k has) over
  ]
