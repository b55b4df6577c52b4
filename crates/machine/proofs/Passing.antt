-- A class that is passed on the way up: what runs for it is told by its own method of the name and by what runs for the class above it.
use Rattle.std.proofs.Common.{◌≡◌, ◌⊎◌, inl, inr, ℕ, zero, suc, Bool, true, false, ◌==◌, ◌||◌, List, length, Option, Some, None, refl, sym, ap, ◌∙◌, arith, if◌then◌else◌}
use Rattle.std.specs.Prelude.{option_and_then, slice_get, unwrap_or}
use Rattle.std.specs.Option.{option_or}
use Rattle.std.proofs.lemmas.Bool.{eq-eqb, or_cases}
use Rattle.std.proofs.lemmas.Option.{none-some, same_Some}
use Rattle.core_program.specs.declared.program.CoreProgram.{CoreProgram}
use Rattle.core_program.specs.Dispatch.{target_of, inherited_target}
use Rattle.core_program.specs.Pairs.{KeptClass, is_own_of, own_named, is_own_up, nearest_named, has_or_inherits, runs_for, target_in}
use Rattle.core_program.specs.Views.{kept_classes, program_of}
use Rattle.core_program.proofs.Climbing.{own_at, own_none, own_nowhere, nearest_here, nearest_on}
use Rattle.core_program.proofs.NamedParts.{own_has, nearest_of_more}
use Rattle.core_program.proofs.OverridesLemmas.{target_is}
use Rattle.machine.specs.Upwards.{runs_below}
use Rattle.machine.proofs.Enough.{one_more}

module _ (p : CoreProgram) where
  abbrev parts : List KeptClass
  parts = kept_classes p

  abbrev names : List ℕ
  names = p.names.items

  abbrev count : ℕ
  count = length (kept_classes p)

  -- where a method is found going up, one of its name is
  has_nearest : (n : ℕ) (from : Option ℕ) (m name : ℕ) → slice_get names m ≡ Some name → is_own_up parts names n from m ≡ true → (r : ℕ) × (nearest_named parts names n from name ≡ Some r)
  has_nearest zero from m name named up = absurd (let e : false ≡ true = up in cc)
  has_nearest (suc n) None m name named up = absurd (let e : false ≡ true = up in cc)
  has_nearest (suc n) (Some k) m name named up = in_class (slice_get parts k) refl (λ above later. has_nearest n above m name named later)
    where
      in_class : (o : Option KeptClass) → slice_get parts k ≡ o → ((above : Option ℕ) → is_own_up parts names n above m ≡ true → (r : ℕ) × (nearest_named parts names n above name ≡ Some r))
          → (r : ℕ) × (nearest_named parts names (suc n) (Some k) name ≡ Some r)
      in_class None gone go = absurd (let e : false ≡ true = sym (own_nowhere parts names (suc n) k m gone) ∙ up in cc)
      in_class (Some c) there go = by_own (own_named names name c) refl (or_cases (is_own_of m c) (is_own_up parts names n c.above m) (sym (own_at parts names n k m c there) ∙ up))
        where
          by_own : (o : Option ℕ) → own_named names name c ≡ o → (is_own_of m c ≡ true) ⊎ (is_own_up parts names n c.above m ≡ true) → (r : ℕ) × (nearest_named parts names (suc n) (Some k) name ≡ Some r)
          by_own (Some r) own either = (r, nearest_here parts names n (suc n) k name r c refl there own)
          by_own None none (inl mine) = absurd (none-some m (sym none ∙ p.named k c there m name mine named))
          by_own None none (inr later) = let r = go c.above later in (r.0, nearest_on parts names n (suc n) k name c refl there none ∙ r.1)

  nearest_at : (k name : ℕ) (c : KeptClass) → slice_get parts k ≡ Some c
      → nearest_named parts names (suc count) (Some k) name ≡ option_or (own_named names name c) (nearest_named parts names count c.above name)
  nearest_at k name c there = ap (λ o. option_or (option_and_then (own_named names name) o) (nearest_named parts names count (option_and_then (λ (x : KeptClass). x.above) o) name)) there

  -- what runs for a method, from a class on or from none, where it is had there: the nearest of its name
  abbrev runs_from : Option ℕ → ℕ → ℕ → Option ℕ
  runs_from from m name = if is_own_up parts names count from m then nearest_named parts names count from name else None

  -- so it is in a class that is there, and whose own methods and those above it are looked at
  class_runs : (k m name : ℕ) (c : KeptClass) → slice_get parts k ≡ Some c → slice_get names m ≡ Some name
      → target_of (program_of p) k m ≡ (if is_own_of m c || is_own_up parts names count c.above m then option_or (own_named names name c) (nearest_named parts names count c.above name) else None)
  class_runs k m name c there named =
      target_is p k m ∙ ap (option_and_then (λ x. target_in parts names x m)) there
      ∙ ap (option_and_then (λ n. if has_or_inherits parts names c m then Some (runs_for parts names c m n) else None)) named
      ∙ by_has (is_own_of m c || is_own_up parts names count c.above m) refl
    where
      unwrapped : (o : Option ℕ) (r : ℕ) → o ≡ Some r → Some (unwrap_or o m) ≡ o
      unwrapped o r is = ap (λ z. Some (unwrap_or z m)) is ∙ sym is

      by_has : (b : Bool) → (is_own_of m c || is_own_up parts names count c.above m) ≡ b
          → (if b then Some (runs_for parts names c m name) else None) ≡ (if b then option_or (own_named names name c) (nearest_named parts names count c.above name) else None)
      by_has false lacks = refl
      by_has true has =
          let up = own_at parts names count k m c there ∙ has in
          let r = has_nearest (suc count) (Some k) m name named up in
          unwrapped (option_or (own_named names name c) (nearest_named parts names count c.above name)) r.0 (sym (nearest_at k name c there) ∙ r.1)

  -- what runs for the class above is what runs from it on
  above_runs : (from : Option ℕ) (m name : ℕ) → slice_get names m ≡ Some name → inherited_target (program_of p) from m ≡ runs_from from m name
  above_runs None m name named = ap (λ b. if b then nearest_named parts names count None name else None) (sym (own_none parts names count m))
  above_runs (Some k) m name named = in_class (slice_get parts k) refl
    where
      in_class : (o : Option KeptClass) → slice_get parts k ≡ o → target_of (program_of p) k m ≡ runs_from (Some k) m name
      in_class None gone =
          target_is p k m ∙ ap (option_and_then (λ x. target_in parts names x m)) gone
          ∙ ap (λ b. if b then nearest_named parts names count (Some k) name else None) (sym (own_nowhere parts names count k m gone))
      in_class (Some c) there = class_runs k m name c there named ∙ by_has (is_own_of m c || is_own_up parts names count c.above m) refl
        where
          by_has : (b : Bool) → (is_own_of m c || is_own_up parts names count c.above m) ≡ b
              → (if b then option_or (own_named names name c) (nearest_named parts names count c.above name) else None) ≡ runs_from (Some k) m name
          by_has b has =
              let up = one_more parts names m k ∙ own_at parts names count k m c there ∙ has in
              same b up ∙ ap (λ z. if z then nearest_named parts names count (Some k) name else None) (sym up)
            where
              same : (b : Bool) → is_own_up parts names count (Some k) m ≡ b
                  → (if b then option_or (own_named names name c) (nearest_named parts names count c.above name) else None) ≡ (if b then nearest_named parts names count (Some k) name else None)
              same false lacks = refl
              same true up =
                  let r = has_nearest count (Some k) m name named up in
                  sym (nearest_at k name c there) ∙ nearest_of_more parts names count (suc count) (Some k) name r.0 (omega arith) r.1 ∙ sym r.1

  -- ---- one class passed

  nothing_below : (nearest : Option ℕ) → runs_below nearest None ≡ None
  nothing_below None = refl
  nothing_below (Some r) = refl

  -- a class that isn't there runs nothing
  pub passed_nowhere : (k m : ℕ) (nearest : Option ℕ) → slice_get parts k ≡ None → None ≡ runs_below nearest (target_of (program_of p) k m)
  passed_nowhere k m nearest gone = sym (ap (runs_below nearest) (target_is p k m ∙ ap (option_and_then (λ x. target_in parts names x m)) gone) ∙ nothing_below nearest)

  -- the method's own class runs it
  pub passed_itself : (k m name : ℕ) (c : KeptClass) (nearest : Option ℕ) → slice_get parts k ≡ Some c → slice_get names m ≡ Some name → own_named names name c ≡ Some m
      → Some (unwrap_or nearest m) ≡ runs_below nearest (target_of (program_of p) k m)
  passed_itself k m name c nearest there named own =
      let mine = (own_has names name m c own).1 in
      sym (ap (runs_below nearest) (
      class_runs k m name c there named
      ∙ ap (λ b. if b || is_own_up parts names count c.above m then option_or (own_named names name c) (nearest_named parts names count c.above name) else None) mine
      ∙ ap (λ o. option_or o (nearest_named parts names count c.above name)) own
      ) ∙ chosen nearest)
    where
      chosen : (o : Option ℕ) → runs_below o (Some m) ≡ Some (unwrap_or o m)
      chosen None = refl
      chosen (Some r) = refl

  -- another class runs its own method of the name, where the class above runs any, and else what that runs
  passed_by : (k m name : ℕ) (c : KeptClass) (nearest own : Option ℕ) → slice_get parts k ≡ Some c → slice_get names m ≡ Some name → own_named names name c ≡ own → (own ≡ Some m → ⊥)
      → runs_below (option_or nearest own) (inherited_target (program_of p) c.above m) ≡ runs_below nearest (target_of (program_of p) k m)
  passed_by k m name c nearest own there named is other =
      ap (runs_below (option_or nearest own)) (above_runs c.above m name named)
      ∙ one nearest own (runs_from c.above m name)
      ∙ ap (runs_below nearest) (by_up (is_own_up parts names count c.above m) refl own is ∙ sym here)
    where
      not_mine : is_own_of m c ≡ false
      not_mine = by_test (is_own_of m c) refl
        where
          by_test : (b : Bool) → is_own_of m c ≡ b → b ≡ false
          by_test false e = refl
          by_test true mine = absurd (other (sym is ∙ p.named k c there m name mine named))

      here : target_of (program_of p) k m ≡ (if is_own_up parts names count c.above m then option_or own (nearest_named parts names count c.above name) else None)
      here =
          class_runs k m name c there named
          ∙ ap (λ b. if b || is_own_up parts names count c.above m then option_or (own_named names name c) (nearest_named parts names count c.above name) else None) not_mine
          ∙ ap (λ o. if is_own_up parts names count c.above m then option_or o (nearest_named parts names count c.above name) else None) is

      one : (nearest own above : Option ℕ) → runs_below (option_or nearest own) above ≡ runs_below nearest (runs_below own above)
      one None own above = refl
      one (Some r) own None = sym (ap (runs_below (Some r)) (nothing_below own))
      one (Some r) None (Some x) = refl
      one (Some r) (Some q) (Some x) = refl

      by_up : (b : Bool) → is_own_up parts names count c.above m ≡ b → (o : Option ℕ) → own_named names name c ≡ o
          → runs_below o (if b then nearest_named parts names count c.above name else None) ≡ (if b then option_or o (nearest_named parts names count c.above name) else None)
      by_up false lacks o own = nothing_below o
      by_up true up None own = refl
      by_up true up (Some q) own = let r = has_nearest count c.above m name named up in ap (runs_below (Some q)) r.1

  pub passed_other : (k m name r : ℕ) (c : KeptClass) (nearest : Option ℕ) → slice_get parts k ≡ Some c → slice_get names m ≡ Some name → own_named names name c ≡ Some r → (r == m) ≡ false
      → runs_below (Some (unwrap_or nearest r)) (inherited_target (program_of p) c.above m) ≡ runs_below nearest (target_of (program_of p) k m)
  passed_other k m name r c nearest there named own other =
      ap (λ o. runs_below o (inherited_target (program_of p) c.above m)) (default nearest)
      ∙ passed_by k m name c nearest (Some r) there named own (λ e. let f : true ≡ false = sym (eq-eqb r m (same_Some r m e)) ∙ other in cc)
    where
      default : (o : Option ℕ) → Some (unwrap_or o r) ≡ option_or o (Some r)
      default None = refl
      default (Some q) = refl

  pub passed_without : (k m name : ℕ) (c : KeptClass) (nearest : Option ℕ) → slice_get parts k ≡ Some c → slice_get names m ≡ Some name → own_named names name c ≡ None
      → runs_below nearest (inherited_target (program_of p) c.above m) ≡ runs_below nearest (target_of (program_of p) k m)
  passed_without k m name c nearest there named none =
      ap (λ o. runs_below o (inherited_target (program_of p) c.above m)) (default nearest) ∙ passed_by k m name c nearest None there named none (λ e. none-some m e)
    where
      default : (o : Option ℕ) → o ≡ option_or o None
      default None = refl
      default (Some q) = refl
