-- A walk through the classes keeps what is known of the nearest methods right.
use Rattle.std.proofs.Common.{◌≡◌, ◌⊎◌, inl, inr, ℕ, zero, suc, ◌+◌, ◌<◌, ◌≤◌, ◌==◌, Bool, true, false, List, [], ◌∷◌, length, map, drop, take, Option, Some, None, refl, sym, ap, subst, ◌∙◌, arith, nat_le, nat_lt}
use Rattle.std.specs.Prelude.{option_and_then, option_map, slice_get, if◌then◌else◌}
use Rattle.std.specs.Option.{option_or}
use Rattle.std.proofs.lemmas.Bool.{eqb-true, eqb-false, leb-true, ltb-true, le-leb, lt-ltb, and_from, and_parts}
use Rattle.std.proofs.lemmas.Option.{none-some, same_Some, slice_get_within, slice_get-map}
use Rattle.base.specs.Ancestors.{steps_up}
use Rattle.core_program.specs.declared.program.CoreClass.{CoreClass}
use Rattle.core_program.specs.declared.program.CoreMethod.{CoreMethod}
use Rattle.core_program.specs.declared.program.CoreProgram.{CoreProgram}
use Rattle.core_program.specs.Core.{Method}
use Rattle.core_program.specs.Kept.{kept_class}
use Rattle.core_program.specs.Overridden.{class_of_method, class_owning, owner}
use Rattle.core_program.specs.Pairs.{KeptClass, is_own_of, named_in, nearest_named, own_named, part_above}
use Rattle.core_program.specs.Views.{kept_classes, method_of}
use Rattle.core_program.proofs.Climbing.{nearest_none}
use Rattle.core_program.proofs.NamedParts.{own_has}
use Rattle.forest.specs.declared.steps.Step.{Step}
use Rattle.forest.specs.declared.steps.Step.TheVariants.{Down, Up}
use Rattle.forest.specs.Walks.{BeginsAt, Leads, above_in, after}
use Rattle.forest.proofs.WalkLemmas.{next_step}
use Rattle.rules.specs.Above.{known_at, AreRight, own_first, own_end, lines, above_class, own_with, nearest_from, nearest_above, PassesOn, StandsAt, step_start, step_end}

-- ---- cells

-- a cell more
pub right_more : (truth : ℕ → Option ℕ) (cells more : List (Option (Option ℕ))) (place : ℕ) (known : Option (Option ℕ)) → AreRight truth cells
    → ((found : Option ℕ) → known ≡ Some found → truth place ≡ found)
    → ((found : Option ℕ) → known_at more place ≡ Some found → known ≡ Some found)
    → ((other : ℕ) → (other ≡ place → ⊥) → known_at more other ≡ known_at cells other) → AreRight truth more
right_more truth cells more place known right is written others i found there = by_test (i == place) refl
  where
    by_test : (b : Bool) → (i == place) ≡ b → truth i ≡ found
    by_test true same =
        let e = eqb-true i place same in
        subst (λ z. truth z ≡ found) (sym e) (is found (written found (subst (λ z. known_at more z ≡ Some found) e there)))
    by_test false apart = right i found (sym (others i (eqb-false i place apart)) ∙ there)

module _ (own A B : ℕ → Option ℕ) where
  -- what is known is right of B, or of A where the name's own method is still to come
  abbrev pub Turning : ℕ → List (Option (Option ℕ)) → Type 0
  Turning place cells = (name : ℕ) (found : Option ℕ) → known_at cells name ≡ Some found → (B name ≡ found) ⊎ ((A name ≡ found) × ((m : ℕ) → own name ≡ Some m → place ≤ m))

  pub turning_none : (first : ℕ) (cells : List (Option (Option ℕ))) → ((name m : ℕ) → own name ≡ Some m → first ≤ m) → AreRight A cells → Turning first cells
  turning_none first cells low right name found there = inr (right name found there, low name)

  pub turning_more : (place name : ℕ) (cells more : List (Option (Option ℕ))) (known : Option (Option ℕ)) → ((other : ℕ) → own other ≡ Some place → other ≡ name)
      → ((found : Option ℕ) → known ≡ Some found → B name ≡ found)
      → ((found : Option ℕ) → known_at more name ≡ Some found → known ≡ Some found)
      → ((other : ℕ) → (other ≡ name → ⊥) → known_at more other ≡ known_at cells other) → Turning place cells → Turning (place + 1) more
  turning_more place name cells more known alone is written others so_far other found there = by_test (other == name) refl
    where
      by_test : (b : Bool) → (other == name) ≡ b → (B other ≡ found) ⊎ ((A other ≡ found) × ((m : ℕ) → own other ≡ Some m → place + 1 ≤ m))
      by_test true same =
          let e = eqb-true other name same in
          inl (subst (λ z. B z ≡ found) (sym e) (is found (written found (subst (λ z. known_at more z ≡ Some found) e there))))
      by_test false apart =
          let differs = eqb-false other name apart in
          elim (so_far other found (sym (others other differs) ∙ there)) as (λ _. (B other ≡ found) ⊎ ((A other ≡ found) × ((m : ℕ) → own other ≡ Some m → place + 1 ≤ m))) [
            | inl r ↦ inl r
            | inr (a, later) ↦ inr (a, λ m o. further m (later m o) (λ e. differs (alone other (o ∙ ap Some e))))
          ]
        where
          further : (m : ℕ) → place ≤ m → (m ≡ place → ⊥) → place + 1 ≤ m
          further m low other_one = omega (arith, low, other_one)

  pub turning_all : (place : ℕ) (cells : List (Option (Option ℕ))) → ((name m : ℕ) → own name ≡ Some m → m < place) → ((name : ℕ) → own name ≡ None → A name ≡ B name)
      → Turning place cells → AreRight B cells
  turning_all place cells high same turned name found there = elim (turned name found there) as (λ _. B name ≡ found) [
    | inl r ↦ r
    | inr (a, later) ↦ by_own (own name) refl a later
  ]
    where
      by_own : (o : Option ℕ) → own name ≡ o → A name ≡ found → ((m : ℕ) → own name ≡ Some m → place ≤ m) → B name ≡ found
      by_own None none a later = sym (same name none) ∙ a
      by_own (Some m) is a later = let low = later m is in let below = high name m is in absurd (omega (arith, low, below))

-- ---- going up ends

module _ (parts : List KeptClass) (names : List ℕ) where
  -- where going up ends, looking further finds no more
  ends_same : (depth n more : ℕ) (from : Option ℕ) (name : ℕ) → option_and_then (steps_up (part_above parts names) depth) from ≡ None → depth ≤ n → depth ≤ more
      → nearest_named parts names n from name ≡ nearest_named parts names more from name
  ends_same depth n more None name ends few fewer = nearest_none parts names n name ∙ sym (nearest_none parts names more name)
  ends_same zero n more (Some k) name ends few fewer = absurd (none-some k (sym ends))
  ends_same (suc depth) zero more (Some k) name ends few fewer = absurd (omega (arith, few))
  ends_same (suc depth) (suc n) zero (Some k) name ends few fewer = absurd (omega (arith, fewer))
  ends_same (suc depth) (suc n) (suc more) (Some k) name ends few fewer =
      ap (option_or (named_in parts names name k)) (ends_same depth n more (part_above parts names k) name ends (omega (arith, few)) (omega (arith, fewer)))

  passes : (count depth k name : ℕ) → option_and_then (steps_up (part_above parts names) depth) (part_above parts names k) ≡ None → depth < count
      → nearest_named parts names count (Some k) name ≡ option_or (named_in parts names name k) (nearest_named parts names count (part_above parts names k) name)
  passes zero depth k name ends few = absurd (omega (arith, few))
  passes (suc n) depth k name ends few =
      ap (option_or (named_in parts names name k)) (ends_same depth n (suc n) (part_above parts names k) name ends (omega (arith, few)) (omega (arith, few)))

-- ---- a class's own methods

module _ (p : CoreProgram) where
  pub passes_on : (k depth : ℕ) → option_and_then (steps_up (above_class p) depth) (above_class p k) ≡ None → depth < length (kept_classes p) → PassesOn p k
  passes_on k depth ends few name = passes (kept_classes p) p.names.items (length (kept_classes p)) depth k name ends few

  pub passes_up : (k depth : ℕ) → steps_up (above_class p) depth k ≡ None → depth ≤ length (kept_classes p) → PassesOn p k
  passes_up k zero ends few = absurd (none-some k (sym ends))
  passes_up k (suc depth) ends few = passes_on k depth ends (omega (arith, few))

  record IsOwn (o : Option KeptClass) (name m : ℕ) : Type 0 where
    named : slice_get p.names.items m ≡ Some name
    low : own_first o ≤ m
    high : m < own_end (length p.names.items) o

  is_own : (name m : ℕ) (o : Option KeptClass) → option_and_then (own_named p.names.items name) o ≡ Some m → IsOwn o name m
  is_own name m None e = absurd (none-some m e)
  is_own name m (Some c) e =
      let h = own_has p.names.items name m c e in
      let both = and_parts (nat_le c.first_method m) (nat_lt m (c.first_method + c.method_count)) h.1 in
      let within = slice_get_within p.names.items m name h.0 in
      let low = leb-true c.first_method m both.0 in
      let high = ltb-true m (c.first_method + c.method_count) both.1 in
      record { named = h.0; low = low; high = omega (arith, within, high) }

  pub own_low : (k name m : ℕ) → own_with p k name ≡ Some m → own_first (slice_get (kept_classes p) k) ≤ m
  own_low k name m e = (is_own name m (slice_get (kept_classes p) k) e).low

  pub own_high : (k name m : ℕ) → own_with p k name ≡ Some m → m < own_end (length p.names.items) (slice_get (kept_classes p) k)
  own_high k name m e = (is_own name m (slice_get (kept_classes p) k) e).high

  pub own_alone : (k name place other : ℕ) → slice_get p.names.items place ≡ Some name → own_with p k other ≡ Some place → other ≡ name
  own_alone k name place other named e = same_Some other name (sym (is_own other place (slice_get (kept_classes p) k) e).named ∙ named)

  owner_is : (m : ℕ) → slice_get (map (λ (x : CoreMethod). x.class) p.methods.items) m ≡ owner p m
  owner_is m =
      slice_get-map (λ (x : CoreMethod). x.class) p.methods.items m
      ∙ by_method (slice_get p.methods.items m) ∙ ap (option_map (λ (x : Method). x.class)) (sym (slice_get-map method_of p.methods.items m))
    where
      by_method : (o : Option CoreMethod) → option_map (λ (x : CoreMethod). x.class) o ≡ option_map (λ (x : Method). x.class) (option_map method_of o)
      by_method None = refl
      by_method (Some x) = refl

  -- the class in which a method stands among the own ones, where it has a name
  pub class_is : (k m name : ℕ) (c : KeptClass) → slice_get (kept_classes p) k ≡ Some c → is_own_of m c ≡ true → slice_get p.names.items m ≡ Some name → class_of_method p m ≡ Some c
  class_is k m name c there mine named =
      let owned = sym (owner_is m) ∙ p.owned k c there m name mine named in
      ap (option_and_then (λ j. option_and_then (class_owning m) (slice_get (kept_classes p) j))) owned
      ∙ ap (option_and_then (class_owning m)) there ∙ ap (λ b. if b then Some c else None) mine

  -- the method at a place among a class's own ones, and with this name
  pub record IsOwnAt (k name place : ℕ) : Type 0 where
    pub own : own_with p k name ≡ Some place
    pub above : nearest_above p place ≡ nearest_from p (above_class p k) name

  pub own_at : (k place name : ℕ) → own_first (slice_get (kept_classes p) k) ≤ place → place < own_end (length p.names.items) (slice_get (kept_classes p) k)
      → slice_get p.names.items place ≡ Some name → IsOwnAt k name place
  own_at k place name low high named = by_class (slice_get (kept_classes p) k) refl low high
    where
      by_class : (o : Option KeptClass) → slice_get (kept_classes p) k ≡ o → own_first o ≤ place → place < own_end (length p.names.items) o → IsOwnAt k name place
      by_class None gone low high = absurd (omega (arith, high))
      by_class (Some c) there low high =
          let mine = and_from (nat_le c.first_method place) (nat_lt place (c.first_method + c.method_count)) (le-leb c.first_method place low)
          (lt-ltb place (c.first_method + c.method_count) (omega (arith, high))) in
          let class = class_is k place name c there mine named in
          record {
            own = ap (option_and_then (own_named p.names.items name)) there ∙ p.named k c there place name mine named;
            above = ap (option_and_then (λ (c : KeptClass). option_and_then (nearest_from p c.above) (slice_get p.names.items place))) class
                ∙ ap (option_and_then (nearest_from p c.above)) named
                ∙ ap (λ (o : Option KeptClass). nearest_from p (option_and_then (λ (c : KeptClass). c.above) o) name) (sym there);
          }

  -- what is nearest above a class and at it is the same for a name that no own method has
  pub none_same : (k : ℕ) → PassesOn p k → (name : ℕ) → own_with p k name ≡ None → nearest_from p (above_class p k) name ≡ nearest_from p (Some k) name
  none_same k passes name none = sym (passes name ∙ ap (λ o. option_or o (nearest_from p (above_class p k) name)) none)

  pub own_nearest : (k name m : ℕ) → PassesOn p k → own_with p k name ≡ Some m → nearest_from p (Some k) name ≡ Some m
  own_nearest k name m passes own = passes name ∙ ap (λ o. option_or o (nearest_from p (above_class p k) name)) own

  -- ---- a step of the walk

  line_above : (k : ℕ) → above_in (lines p) k ≡ above_class p k
  line_above k = ap (option_and_then (λ (up : Option ℕ). up)) (slice_get-map (λ (c : KeptClass). c.above) (kept_classes p) k) ∙ by_class (slice_get (kept_classes p) k)
    where
      by_class : (o : Option KeptClass) → option_and_then (λ (up : Option ℕ). up) (option_map (λ (c : KeptClass). c.above) o) ≡ option_and_then (λ (c : KeptClass). c.above) o
      by_class None = refl
      by_class (Some c) = refl

  begins_there : (at : Option ℕ) (step : Step) → BeginsAt (lines p) at step → at ≡ step_start p step
  begins_there at (Down k) begins = sym (ap (option_and_then (λ (up : Option ℕ). up)) begins) ∙ line_above k
  begins_there at (Up k) begins = begins

  leads_there : (step : Step) → after (lines p) step ≡ step_end p step
  leads_there (Down k) = refl
  leads_there (Up k) = line_above k

  -- the walk is at this place, before these steps
  pub record Walking (rest : List Step) (depth : ℕ) (current noted : List (Option (Option ℕ))) : Type 0 where
    pub at : Option ℕ
    pub leads : Leads (lines p) at rest
    pub here : StandsAt p at depth current noted

  pub walking_at : (steps : List Step) (i : ℕ) (step : Step) (depth : ℕ) (current noted : List (Option (Option ℕ))) → slice_get steps i ≡ Some step → Walking (drop i steps) depth current noted
      → StandsAt p (step_start p step) depth current noted
  walking_at steps i step depth current noted is w =
      subst (λ at. StandsAt p at depth current noted) (begins_there w.at step (next_step (lines p) w.at steps i step is w.leads).0) w.here

  pub walking_on : (steps : List Step) (i : ℕ) (step : Step) (depth next : ℕ) (current noted more later : List (Option (Option ℕ))) → slice_get steps i ≡ Some step
      → Walking (drop i steps) depth current noted → StandsAt p (step_end p step) next more later → Walking (drop (i + 1) steps) next more later
  walking_on steps i step depth next current noted more later is w here =
      record { at = step_end p step; leads = subst (λ at. Leads (lines p) at (drop (i + 1) steps)) (leads_there step) (next_step (lines p) w.at steps i step is w.leads).1; here = here }

-- ---- the classes

-- what each of the first classes extends, where these are all
pub lines_all : (classes : List CoreClass) (i : ℕ) → length classes ≤ i → map (λ (c : CoreClass). c.above) (take i classes) ≡ map (λ (c : KeptClass). c.above) (map kept_class classes)
lines_all [] zero few = refl
lines_all [] (suc i) few = refl
lines_all (c ∷ rest) zero few = absurd (omega (arith, few))
lines_all (c ∷ rest) (suc i) few = ap (λ (xs : List (Option ℕ)). c.above ∷ xs) (lines_all rest i (omega (arith, few)))
