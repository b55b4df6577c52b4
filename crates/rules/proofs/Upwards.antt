-- What the next overridden methods lead to is overridden: going up a line of classes, as many as the program has are enough to look at.
use Rattle.std.proofs.Common.{◌≡◌, ◌≢◌, ◌≤◌, ◌<◌, ℕ, zero, suc, ◌==◌, Bool, true, false, ◌||◌, List, length, Option, Some, None, refl, sym, ap, subst, ◌∙◌, arith, if◌then◌else◌}
use Rattle.std.specs.Prelude.{nat_le, option_and_then, slice_get}
use Rattle.std.specs.Option.{is_some, option_or}
use Rattle.std.proofs.lemmas.Bool.{eqb-true, eq-eqb, leb-true, leb-false, ne_eqb, or_left, or_right}
use Rattle.std.proofs.lemmas.Option.{none-some, same_Some, slice_get_within}
use Rattle.base.specs.Ancestors.{AreBelow, steps_up}
use Rattle.base.proofs.Going.{circle_exact}
use Rattle.base.proofs.Options.{then_parts, if_taken}
use Rattle.core_program.specs.declared.program.CoreProgram.{CoreProgram}
use Rattle.core_program.specs.Dispatch.{Overrides}
use Rattle.core_program.specs.Overridden.{class_of_method, next_overridden, next_named, other_than}
use Rattle.core_program.specs.Pairs.{KeptClass, own_named, part_above, is_own_in, is_own_up, nearest_named}
use Rattle.core_program.specs.Views.{kept_classes, program_of}
use Rattle.core_program.proofs.Climbing.{own_none, own_nowhere, nearest_none}
use Rattle.core_program.proofs.NamedParts.{own_has, nearest_named_is}
use Rattle.core_program.proofs.OverridesLemmas.{is_over, next_overrides, overrides_one}
use Rattle.rules.proofs.AboveLemmas.{class_is}

-- ---- as many classes as there are are enough to look at

module _ (parts : List KeptClass) (names : List ℕ) (m : ℕ) where
  -- a class, if it is there
  abbrev if_there : ℕ → Option ℕ
  if_there d = if is_some (slice_get parts d) then Some d else None

  -- where a look for the method's class goes on from a class: to the one above, if that is there, and nowhere from a class whose own it is
  abbrev goes_to : ℕ → Option ℕ
  goes_to k = if is_own_in parts names (slice_get parts k) m then None else option_and_then if_there (part_above parts names k)

  within : (d : ℕ) → is_some (slice_get parts d) ≡ true → d < length parts
  within d some = cases (slice_get parts d) refl some
    where
      cases : (o : Option KeptClass) → slice_get parts d ≡ o → is_some o ≡ true → d < length parts
      cases None at h = absurd (let e : false ≡ true = h in cc)
      cases (Some c) at h = slice_get_within parts d c at

  -- what is known of one step
  goes_parts : (k d : ℕ) → goes_to k ≡ Some d → (is_own_in parts names (slice_get parts k) m ≡ false) × (part_above parts names k ≡ Some d) × (d < length parts)
  goes_parts k d is = by_own (is_own_in parts names (slice_get parts k) m) refl is
    where
      by_own : (b : Bool) → is_own_in parts names (slice_get parts k) m ≡ b → (if b then None else option_and_then if_there (part_above parts names k)) ≡ Some d
          → (is_own_in parts names (slice_get parts k) m ≡ false) × (part_above parts names k ≡ Some d) × (d < length parts)
      by_own true own h = absurd (none-some d h)
      by_own false own h =
          let a = then_parts if_there (part_above parts names k) d h in
          let b = if_taken (is_some (slice_get parts a.0)) (Some a.0) d a.2 in
          let same = same_Some a.0 d b.1 in
          (own, a.1 ∙ b.1, subst (λ x. x < length parts) same (within a.0 b.0))

  below : AreBelow goes_to (length parts)
  below k d is = (goes_parts k d is).2

  stays_below : (count : ℕ) → length parts ≤ count → AreBelow goes_to count
  stays_below count low k d is = let b = below k d is in omega (arith, low, b)

  -- a class in which a look ends: so many steps lead to it, and the method is its own
  record Found (n k : ℕ) : Type 0 where
    steps : ℕ
    few : steps < n
    class : ℕ
    leads : steps_up goes_to steps k ≡ Some class
    own : is_own_in parts names (slice_get parts class) m ≡ true

  found : (n k : ℕ) → is_own_up parts names n (Some k) m ≡ true → Found n k
  found zero k up = absurd (let e : false ≡ true = up in cc)
  found (suc n) k up = by_own (is_own_in parts names (slice_get parts k) m) refl up (λ d later. found n d later)
    where
      by_above : (o : Option ℕ) → part_above parts names k ≡ o → is_own_in parts names (slice_get parts k) m ≡ false → is_own_up parts names n o m ≡ true → ((d : ℕ) → is_own_up parts names n (Some d) m ≡ true → Found n d) → Found (suc n) k
      by_above None is other later go = absurd (let e : false ≡ true = sym (own_none parts names n m) ∙ later in cc)
      by_above (Some d) is other later go = by_there (slice_get parts d) refl
        where
          by_there : (o : Option KeptClass) → slice_get parts d ≡ o → Found (suc n) k
          by_there None gone = absurd (let e : false ≡ true = sym (own_nowhere parts names n d m gone) ∙ later in cc)
          by_there (Some c) there =
              let f = go d later in
              let few = f.few in
              record {
                steps = suc f.steps;
                few = omega (arith, few);
                class = f.class;
                leads = ap (option_and_then (λ x. steps_up goes_to f.steps x)) (ap (λ b. if b then None else option_and_then if_there (part_above parts names k)) other ∙ ap (option_and_then if_there) is ∙ ap (λ o. if is_some o then Some d else None) there) ∙ f.leads;
                own = f.own;
              }

      by_own : (b : Bool) → is_own_in parts names (slice_get parts k) m ≡ b → (b || is_own_up parts names n (part_above parts names k) m) ≡ true → ((d : ℕ) → is_own_up parts names n (Some d) m ≡ true → Found n d) → Found (suc n) k
      by_own true mine h go = record { steps = 0; few = omega arith; class = k; leads = refl; own = mine }
      by_own false other h go = by_above (part_above parts names k) refl other h go

  -- a look of enough classes comes there
  comes : (n steps k class : ℕ) → steps < n → steps_up goes_to steps k ≡ Some class → is_own_in parts names (slice_get parts class) m ≡ true → is_own_up parts names n (Some k) m ≡ true
  comes zero steps k class few leads own = absurd (omega (arith, few))
  comes (suc n) zero k class few leads own = or_left (is_own_in parts names (slice_get parts k) m) (is_own_up parts names n (part_above parts names k) m) (subst (λ x. is_own_in parts names (slice_get parts x) m ≡ true) (sym (same_Some k class leads)) own)
  comes (suc n) (suc steps) k class few leads own =
      let first = then_parts (λ x. steps_up goes_to steps x) (goes_to k) class leads in
      let step = goes_parts k first.0 first.1 in
      or_right (is_own_in parts names (slice_get parts k) m) (is_own_up parts names n (part_above parts names k) m)
      (ap (λ o. is_own_up parts names n o m) step.1 ∙ comes n steps first.0 class (omega (arith, few)) first.2 own)

  -- from where a look ends no step leads on
  ends : (steps k class : ℕ) → steps_up goes_to steps k ≡ Some class → goes_to class ≡ None → steps_up goes_to (suc steps) k ≡ None
  ends zero k class leads last = ap (option_and_then (λ x. steps_up goes_to 0 x)) (ap goes_to (same_Some k class leads) ∙ last)
  ends (suc steps) k class leads last =
      let first = then_parts (λ x. steps_up goes_to steps x) (goes_to k) class leads in
      ap (option_and_then (λ x. steps_up goes_to (suc steps) x)) first.1 ∙ ends steps first.0 class first.2 last

  -- it takes fewer steps than there are classes: else it would go round
  fewer : (n k : ℕ) (f : Found n k) → k < length parts → f.steps < length parts
  fewer n k f low = by_count (nat_le (length parts) f.steps) refl
    where
      by_count : (b : Bool) → nat_le (length parts) f.steps ≡ b → f.steps < length parts
      by_count false few = leb-false (length parts) f.steps few
      by_count true many =
          let more = leb-true (length parts) f.steps many in
          let round = (circle_exact goes_to f.steps (stays_below f.steps more) k (omega (arith, low, more))).0 (ap is_some f.leads) in
          let on = (circle_exact goes_to (suc f.steps) (stays_below (suc f.steps) (omega (arith, more))) k (omega (arith, low, more))).1 round in
          let last = ends f.steps k f.class f.leads (ap (λ b. if b then None else option_and_then if_there (part_above parts names f.class)) f.own) in
          absurd (let e : false ≡ true = sym (ap is_some last) ∙ on in cc)

  -- whatever a look finds, as many classes as there are are enough for it
  enough : (n : ℕ) (from : Option ℕ) → is_own_up parts names n from m ≡ true → is_own_up parts names (length parts) from m ≡ true
  enough n None up = absurd (let e : false ≡ true = sym (own_none parts names n m) ∙ up in cc)
  enough n (Some k) up = by_there (slice_get parts k) refl
    where
      by_there : (o : Option KeptClass) → slice_get parts k ≡ o → is_own_up parts names (length parts) (Some k) m ≡ true
      by_there None gone = absurd (let e : false ≡ true = sym (own_nowhere parts names n k m gone) ∙ up in cc)
      by_there (Some c) there = let f = found n k up in comes (length parts) f.steps k f.class (fewer n k f (slice_get_within parts k c there)) f.leads f.own

-- ---- further up

module _ (p : CoreProgram) where
  abbrev parts : List KeptClass
  parts = kept_classes p

  abbrev names : List ℕ
  names = p.names.items

  abbrev count : ℕ
  count = length (kept_classes p)

  -- what stands above the class of a method that is found by a name stands above where that look began
  further : (n up : ℕ) (from : Option ℕ) (name next m : ℕ) (of : KeptClass) → nearest_named parts names n from name ≡ Some next → class_of_method p next ≡ Some of
      → is_own_up parts names up of.above m ≡ true → (more : ℕ) × (is_own_up parts names more from m ≡ true)
  further zero up from name next m of found is above = absurd (none-some next found)
  further (suc n) up None name next m of found is above = absurd (none-some next found)
  further (suc n) up (Some k) name next m of found is above = in_class (slice_get parts k) refl (λ from e. further n up from name next m of e is above) found
    where
      one_more : (c : KeptClass) → slice_get parts k ≡ Some c → (more : ℕ) → is_own_up parts names more c.above m ≡ true → is_own_up parts names (suc more) (Some k) m ≡ true
      one_more c there more later =
          ap (λ o. is_own_in parts names o m || is_own_up parts names more (option_and_then (λ (x : KeptClass). x.above) o) m) there
          ∙ or_right (is_own_in parts names (Some c) m) (is_own_up parts names more c.above m) later

      in_class : (o : Option KeptClass) → slice_get parts k ≡ o → ((from : Option ℕ) → nearest_named parts names n from name ≡ Some next → (more : ℕ) × (is_own_up parts names more from m ≡ true))
          → option_or (option_and_then (own_named names name) o) (nearest_named parts names n (option_and_then (λ (x : KeptClass). x.above) o) name) ≡ Some next
          → (more : ℕ) × (is_own_up parts names more (Some k) m ≡ true)
      in_class None gone later e = absurd (none-some next (sym (nearest_none parts names n name) ∙ e))
      in_class (Some c) there later e = by_own (own_named names name c) refl e
        where
          by_own : (o : Option ℕ) → own_named names name c ≡ o → option_or o (nearest_named parts names n c.above name) ≡ Some next → (more : ℕ) × (is_own_up parts names more (Some k) m ≡ true)
          by_own None none f = let rest = later c.above f in (suc rest.0, one_more c there rest.0 rest.1)
          by_own (Some x) own f =
              let h = own_has names name next c (own ∙ f) in
              let same = same_Some of c (sym is ∙ class_is p k next name c there h.1 h.0) in
              (suc up, one_more c there up (subst (λ (z : KeptClass). is_own_up parts names up z.above m ≡ true) same above))

  -- what the next overridden method overrides is overridden
  over_next : (over next m : ℕ) → next_overridden p over ≡ Some next → Overrides (program_of p) next m → over ≢ m → Overrides (program_of p) over m
  over_next over next m e o apart =
      let i = is_over p next m o in
      let first = then_parts (λ c. option_and_then (next_named p over c) (slice_get names over)) (class_of_method p over) next e in
      let c = first.0 in
      let second = then_parts (next_named p over c) (slice_get names over) next first.2 in
      let third = then_parts (other_than over) (nearest_named parts names count c.above second.0) next second.2 in
      let found = third.1 ∙ ap Some (other_is (third.0 == over) third.2) in
      let at = nearest_named_is parts names count c.above second.0 next found in
      let same = same_Some i.name second.0 (sym i.named ∙ (own_has names second.0 next at.class at.here).0) in
      let up = further count count c.above second.0 next m i.class found i.of_class i.up in
      overrides_one p over m second.0 c first.1 second.1 (i.other ∙ ap Some same) (enough parts names m up.0 c.above up.1) (ne_eqb m over (λ same. apart (sym same)))
    where
      other_is : {n : ℕ} (b : Bool) → (if b then None else Some n) ≡ Some next → n ≡ next
      other_is true f = absurd (none-some next f)
      other_is {n} false f = same_Some n next f

  -- whatever else they lead to is overridden
  pub lead_overrides : (n over m : ℕ) → steps_up (next_overridden p) (suc n) over ≡ Some m → over ≢ m → Overrides (program_of p) over m
  lead_overrides zero over m leads apart =
      let first = then_parts (λ d. steps_up (next_overridden p) 0 d) (next_overridden p over) m leads in
      next_overrides p over m (first.1 ∙ first.2)
  lead_overrides (suc n) over m leads apart =
      let first = then_parts (λ d. steps_up (next_overridden p) (suc n) d) (next_overridden p over) m leads in
      by_test first.0 first.1 (lead_overrides n first.0 m first.2) (first.0 == m) refl
    where
      by_test : (next : ℕ) → next_overridden p over ≡ Some next → (next ≢ m → Overrides (program_of p) next m) → (b : Bool) → (next == m) ≡ b → Overrides (program_of p) over m
      by_test next is further true same = next_overrides p over m (is ∙ ap Some (eqb-true next m same))
      by_test next is further false other = over_next over next m is (further (λ e. absurd (let t : true ≡ false = sym (eq-eqb next m e) ∙ other in cc))) apart
