-- Of a look up a line of classes: as many classes as the program has are enough to look at, since with more it would go round.
use Rattle.std.proofs.Common.{◌≡◌, ◌≤◌, ◌<◌, ℕ, zero, suc, Bool, true, false, ◌||◌, List, length, Option, Some, None, refl, sym, ap, subst, ◌∙◌, arith, if◌then◌else◌}
use Rattle.std.specs.Prelude.{nat_le, option_and_then, slice_get}
use Rattle.std.specs.Option.{is_some}
use Rattle.std.proofs.lemmas.Bool.{leb-true, leb-false, or_left, or_right}
use Rattle.std.proofs.lemmas.Option.{none-some, same_Some, slice_get_within}
use Rattle.base.specs.Ancestors.{AreBelow, steps_up}
use Rattle.base.proofs.Going.{circle_exact}
use Rattle.base.proofs.Options.{then_parts, if_taken}
use Rattle.core_program.specs.Pairs.{KeptClass, part_above, is_own_in, is_own_up}
use Rattle.core_program.proofs.Climbing.{own_none, own_nowhere}

module _ (parts : List KeptClass) (names : List ℕ) (m : ℕ) where
  -- a class, if it is there
  abbrev if_there : ℕ → Option ℕ
  if_there d = if is_some (slice_get parts d) then Some d else None

  -- where a look for the method's class goes on from a class: to the one above, if that is there, and nowhere from a class whose own it is
  abbrev goes_to : ℕ → Option ℕ
  goes_to k = if is_own_in parts names (slice_get parts k) m then None else option_and_then if_there (part_above parts names k)

  within : (d : ℕ) → is_some (slice_get parts d) ≡ true → d < length parts
  within d some = cases (slice_get parts d) refl some
    where
      cases : (o : Option KeptClass) → slice_get parts d ≡ o → is_some o ≡ true → d < length parts
      cases None at h = absurd (let e : false ≡ true = h in cc)
      cases (Some c) at h = slice_get_within parts d c at

  -- what is known of one step
  goes_parts : (k d : ℕ) → goes_to k ≡ Some d → (is_own_in parts names (slice_get parts k) m ≡ false) × (part_above parts names k ≡ Some d) × (d < length parts)
  goes_parts k d is = by_own (is_own_in parts names (slice_get parts k) m) refl is
    where
      by_own : (b : Bool) → is_own_in parts names (slice_get parts k) m ≡ b → (if b then None else option_and_then if_there (part_above parts names k)) ≡ Some d
          → (is_own_in parts names (slice_get parts k) m ≡ false) × (part_above parts names k ≡ Some d) × (d < length parts)
      by_own true own h = absurd (none-some d h)
      by_own false own h =
          let a = then_parts if_there (part_above parts names k) d h in
          let b = if_taken (is_some (slice_get parts a.0)) (Some a.0) d a.2 in
          let same = same_Some a.0 d b.1 in
          (own, a.1 ∙ b.1, subst (λ x. x < length parts) same (within a.0 b.0))

  below : AreBelow goes_to (length parts)
  below k d is = (goes_parts k d is).2

  stays_below : (count : ℕ) → length parts ≤ count → AreBelow goes_to count
  stays_below count low k d is = let b = below k d is in omega (arith, low, b)

  -- a class in which a look ends: so many steps lead to it, and the method is its own
  record Found (n k : ℕ) : Type 0 where
    steps : ℕ
    few : steps < n
    class : ℕ
    leads : steps_up goes_to steps k ≡ Some class
    own : is_own_in parts names (slice_get parts class) m ≡ true

  found : (n k : ℕ) → is_own_up parts names n (Some k) m ≡ true → Found n k
  found zero k up = absurd (let e : false ≡ true = up in cc)
  found (suc n) k up = by_own (is_own_in parts names (slice_get parts k) m) refl up (λ d later. found n d later)
    where
      by_above : (o : Option ℕ) → part_above parts names k ≡ o → is_own_in parts names (slice_get parts k) m ≡ false → is_own_up parts names n o m ≡ true → ((d : ℕ) → is_own_up parts names n (Some d) m ≡ true → Found n d) → Found (suc n) k
      by_above None is other later go = absurd (let e : false ≡ true = sym (own_none parts names n m) ∙ later in cc)
      by_above (Some d) is other later go = by_there (slice_get parts d) refl
        where
          by_there : (o : Option KeptClass) → slice_get parts d ≡ o → Found (suc n) k
          by_there None gone = absurd (let e : false ≡ true = sym (own_nowhere parts names n d m gone) ∙ later in cc)
          by_there (Some c) there =
              let f = go d later in
              let few = f.few in
              record {
                steps = suc f.steps;
                few = omega (arith, few);
                class = f.class;
                leads = ap (option_and_then (λ x. steps_up goes_to f.steps x)) (ap (λ b. if b then None else option_and_then if_there (part_above parts names k)) other ∙ ap (option_and_then if_there) is ∙ ap (λ o. if is_some o then Some d else None) there) ∙ f.leads;
                own = f.own;
              }

      by_own : (b : Bool) → is_own_in parts names (slice_get parts k) m ≡ b → (b || is_own_up parts names n (part_above parts names k) m) ≡ true → ((d : ℕ) → is_own_up parts names n (Some d) m ≡ true → Found n d) → Found (suc n) k
      by_own true mine h go = record { steps = 0; few = omega arith; class = k; leads = refl; own = mine }
      by_own false other h go = by_above (part_above parts names k) refl other h go

  -- a look of enough classes comes there
  comes : (n steps k class : ℕ) → steps < n → steps_up goes_to steps k ≡ Some class → is_own_in parts names (slice_get parts class) m ≡ true → is_own_up parts names n (Some k) m ≡ true
  comes zero steps k class few leads own = absurd (omega (arith, few))
  comes (suc n) zero k class few leads own = or_left (is_own_in parts names (slice_get parts k) m) (is_own_up parts names n (part_above parts names k) m) (subst (λ x. is_own_in parts names (slice_get parts x) m ≡ true) (sym (same_Some k class leads)) own)
  comes (suc n) (suc steps) k class few leads own =
      let first = then_parts (λ x. steps_up goes_to steps x) (goes_to k) class leads in
      let step = goes_parts k first.0 first.1 in
      or_right (is_own_in parts names (slice_get parts k) m) (is_own_up parts names n (part_above parts names k) m)
      (ap (λ o. is_own_up parts names n o m) step.1 ∙ comes n steps first.0 class (omega (arith, few)) first.2 own)

  -- from where a look ends no step leads on
  ends : (steps k class : ℕ) → steps_up goes_to steps k ≡ Some class → goes_to class ≡ None → steps_up goes_to (suc steps) k ≡ None
  ends zero k class leads last = ap (option_and_then (λ x. steps_up goes_to 0 x)) (ap goes_to (same_Some k class leads) ∙ last)
  ends (suc steps) k class leads last =
      let first = then_parts (λ x. steps_up goes_to steps x) (goes_to k) class leads in
      ap (option_and_then (λ x. steps_up goes_to (suc steps) x)) first.1 ∙ ends steps first.0 class first.2 last

  -- it takes fewer steps than there are classes: else it would go round
  fewer : (n k : ℕ) (f : Found n k) → k < length parts → f.steps < length parts
  fewer n k f low = by_count (nat_le (length parts) f.steps) refl
    where
      by_count : (b : Bool) → nat_le (length parts) f.steps ≡ b → f.steps < length parts
      by_count false few = leb-false (length parts) f.steps few
      by_count true many =
          let more = leb-true (length parts) f.steps many in
          let round = (circle_exact goes_to f.steps (stays_below f.steps more) k (omega (arith, low, more))).0 (ap is_some f.leads) in
          let on = (circle_exact goes_to (suc f.steps) (stays_below (suc f.steps) (omega (arith, more))) k (omega (arith, low, more))).1 round in
          let last = ends f.steps k f.class f.leads (ap (λ b. if b then None else option_and_then if_there (part_above parts names f.class)) f.own) in
          absurd (let e : false ≡ true = sym (ap is_some last) ∙ on in cc)

  enough : (n more k : ℕ) → length parts ≤ more → is_own_up parts names n (Some k) m ≡ true → is_own_up parts names more (Some k) m ≡ true
  enough n more k low up = by_there (slice_get parts k) refl
    where
      by_there : (o : Option KeptClass) → slice_get parts k ≡ o → is_own_up parts names more (Some k) m ≡ true
      by_there None gone = absurd (let e : false ≡ true = sym (own_nowhere parts names n k m gone) ∙ up in cc)
      by_there (Some c) there =
          let f = found n k up in
          let few = fewer n k f (slice_get_within parts k c there) in
          comes more f.steps k f.class (omega (arith, few, low)) f.leads f.own

  -- one class more to look at finds the same
  pub one_more : (k : ℕ) → is_own_up parts names (length parts) (Some k) m ≡ is_own_up parts names (suc (length parts)) (Some k) m
  one_more k = bool_same (is_own_up parts names (length parts) (Some k) m) (is_own_up parts names (suc (length parts)) (Some k) m)
      (λ up. enough (length parts) (suc (length parts)) k (omega arith) up) (λ up. enough (suc (length parts)) (length parts) k (omega arith) up)
    where
      bool_same : (a b : Bool) → (a ≡ true → b ≡ true) → (b ≡ true → a ≡ true) → a ≡ b
      bool_same true b there back = sym (there refl)
      bool_same false true there back = back refl
      bool_same false false there back = refl
