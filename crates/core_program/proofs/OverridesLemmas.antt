-- What a method of a program in memory overrides: what is found by its name above its class. From the next one that it overrides, the next of
-- that, and so on, all are reached.
use Rattle.std.proofs.Common.{◌≡◌, ◌≢◌, ◌⊎◌, ◌↔◌, inl, inr, ℕ, zero, suc, ◌≤◌, ◌==◌, Bool, true, false, not, List, [], ◌∷◌, map, cond, filter, length, Option, Some, None, refl, sym, ap, subst, ◌∙◌, arith, if◌then◌else◌}
use Rattle.std.specs.Prelude.{Contains, option_and_then, option_map, slice_get, unwrap_or}
use Rattle.std.specs.Option.{option_or}
use Rattle.std.proofs.lemmas.Bool.{eqb-true, eq-eqb, ne_eqb, or_right, or_cases}
use Rattle.std.proofs.lemmas.Option.{none-some, same_Some, slice_get-map}
use Rattle.base.specs.Ancestors.{steps_up, IsAncestor}
use Rattle.base.proofs.Lists.{contains_cases, contains_later}
use Rattle.base.proofs.Options.{then_parts, map_parts, if_taken}
use Rattle.core_program.specs.declared.program.CoreMethod.{CoreMethod}
use Rattle.core_program.specs.declared.program.CoreProgram.{CoreProgram}
use Rattle.core_program.specs.Core.{Method}
use Rattle.core_program.specs.Dispatch.{partner, targets_in, target_of, Overrides}
use Rattle.core_program.specs.Pairs.{KeptClass, is_own_of, own_named, is_own_up, nearest_named, all_named, has_or_inherits, runs_for, target_in, class_with_pairs}
use Rattle.core_program.specs.Overridden.{class_owning, owner, class_of_method, other_than, next_named, next_overridden}
use Rattle.core_program.specs.Views.{method_of, kept_classes, program_of}
use Rattle.core_program.proofs.Climbing.{own_at, own_nowhere, nearest_here, nearest_on}
use Rattle.core_program.proofs.NamedParts.{own_has, nearest_named_is, all_named_are, all_named_have, nearest_of_more, partner_is}

-- ---- lists and options

kept : (m : ℕ) (xs : List ℕ) (x : ℕ) → Contains xs x → (x == m) ≡ false → Contains (filter (λ n. not (n == m)) xs) x
kept m [] x (k, below, is) apart = absurd (omega (arith, below))
kept m (y ∷ ys) x has apart = by_test (y == m) refl (λ later. kept m ys x later apart) (contains_cases y x ys has)
  where
    by_test : (b : Bool) → (y == m) ≡ b → (Contains ys x → Contains (filter (λ n. not (n == m)) ys) x) → (y ≡ x) ⊎ Contains ys x → Contains (cond (not b) (y ∷ filter (λ n. not (n == m)) ys) (filter (λ n. not (n == m)) ys)) x
    by_test true same rest (inl e) = absurd (let f : true ≡ false = sym same ∙ ap (λ n. n == m) e ∙ apart in cc)
    by_test true same rest (inr later) = rest later
    by_test false other rest (inl e) = (0, omega arith, e)
    by_test false other rest (inr later) = contains_later y x (filter (λ n. not (n == m)) ys) (rest later)

was_kept : (m : ℕ) (xs : List ℕ) (x : ℕ) → Contains (filter (λ n. not (n == m)) xs) x → Contains xs x × ((x == m) ≡ false)
was_kept m [] x (k, below, is) = absurd (omega (arith, below))
was_kept m (y ∷ ys) x has = by_test (y == m) refl (λ h. let r = was_kept m ys x h in (contains_later y x ys r.0, r.1)) has
  where
    by_test : (b : Bool) → (y == m) ≡ b → (Contains (filter (λ n. not (n == m)) ys) x → Contains (y ∷ ys) x × ((x == m) ≡ false))
        → Contains (cond (not b) (y ∷ filter (λ n. not (n == m)) ys) (filter (λ n. not (n == m)) ys)) x → Contains (y ∷ ys) x × ((x == m) ≡ false)
    by_test true same later h = later h
    by_test false other later h = elim (contains_cases y x (filter (λ n. not (n == m)) ys) h) as (λ _. Contains (y ∷ ys) x × ((x == m) ≡ false)) [
      | inl e ↦ ((0, omega arith, e), ap (λ n. n == m) (sym e) ∙ other)
      | inr h ↦ later h
    ]

module _ (p : CoreProgram) where
  abbrev parts : List KeptClass
  parts = kept_classes p

  abbrev names : List ℕ
  names = p.names.items

  abbrev count : ℕ
  count = length (kept_classes p)

  -- ---- what a class runs

  pub target_is : (k m : ℕ) → target_of (program_of p) k m ≡ option_and_then (λ c. target_in parts names c m) (slice_get parts k)
  target_is k m = ap (λ o. partner (targets_in o) m) (slice_get-map (class_with_pairs parts names) parts k) ∙ by_class (slice_get parts k)
    where
      by_class : (o : Option KeptClass) → partner (targets_in (option_map (class_with_pairs parts names) o)) m ≡ option_and_then (λ c. target_in parts names c m) o
      by_class None = refl
      by_class (Some c) = partner_is parts names c m

  -- ---- a method's class

  owner_is : (m : ℕ) → slice_get (map (λ (x : CoreMethod). x.class) p.methods.items) m ≡ owner p m
  owner_is m =
      slice_get-map (λ (x : CoreMethod). x.class) p.methods.items m
      ∙ by_method (slice_get p.methods.items m) ∙ ap (option_map (λ (x : Method). x.class)) (sym (slice_get-map method_of p.methods.items m))
    where
      by_method : (o : Option CoreMethod) → option_map (λ (x : CoreMethod). x.class) o ≡ option_map (λ (x : Method). x.class) (option_map method_of o)
      by_method None = refl
      by_method (Some x) = refl

  -- the class in which a method stands among the own ones, where it has a name
  class_is : (k m name : ℕ) (c : KeptClass) → slice_get parts k ≡ Some c → is_own_of m c ≡ true → slice_get names m ≡ Some name → class_of_method p m ≡ Some c
  class_is k m name c there mine named =
      let owned = sym (owner_is m) ∙ p.owned k c there m name mine named in
      ap (option_and_then (λ j. option_and_then (class_owning m) (slice_get parts j))) owned
      ∙ ap (option_and_then (class_owning m)) there ∙ ap (λ b. if b then Some c else None) mine

  record HasClass (m : ℕ) (c : KeptClass) : Type 0 where
    method : Method
    is : slice_get (program_of p).methods m ≡ Some method
    there : slice_get parts method.class ≡ Some c
    mine : is_own_of m c ≡ true

  has_class : (m : ℕ) (c : KeptClass) → class_of_method p m ≡ Some c → HasClass m c
  has_class m c e =
      let first = then_parts (λ j. option_and_then (class_owning m) (slice_get parts j)) (owner p m) c e in
      let x = map_parts (λ (x : Method). x.class) (slice_get (program_of p).methods m) first.0 first.1 in
      let second = then_parts (class_owning m) (slice_get parts first.0) c first.2 in
      let third = if_taken (is_own_of m second.0) (Some second.0) c second.2 in
      let same = same_Some second.0 c third.1 in
      record {
        method = x.0;
        is = x.1;
        there = ap (slice_get parts) x.2 ∙ second.1 ∙ ap Some same;
        mine = subst (λ z. is_own_of m z ≡ true) same third.0;
      }

  -- ---- what a method overrides is found by its name above its class

  pub overrides_one : (m r name : ℕ) (c : KeptClass) → class_of_method p m ≡ Some c → slice_get names m ≡ Some name → slice_get names r ≡ Some name
      → is_own_up parts names count c.above r ≡ true → (r == m) ≡ false → Overrides (program_of p) m r
  overrides_one m r name c is named other up apart =
      let h = has_class m c is in
      let own = p.named h.method.class c h.there m name h.mine named in
      let has = or_right (is_own_of r c) (is_own_up parts names count c.above r) up in
      let runs = ap (λ o. unwrap_or (option_or o (nearest_named parts names count c.above name)) r) own in
      record {
        differs = λ same. let e : true ≡ false = sym (eq-eqb r m (sym same)) ∙ apart in cc;
        method = h.method;
        is = h.is;
        runs = target_is h.method.class r ∙ ap (option_and_then (λ z. target_in parts names z r)) h.there
            ∙ ap (option_and_then (λ n. if has_or_inherits parts names c r then Some (runs_for parts names c r n) else None)) other
            ∙ ap (λ b. if b then Some (runs_for parts names c r name) else None) has ∙ ap Some runs;
      }

  -- what there is where a method overrides another
  pub record IsOver (m r : ℕ) : Type 0 where
    pub class : KeptClass
    pub name : ℕ
    pub of_class : class_of_method p m ≡ Some class
    pub named : slice_get names m ≡ Some name
    pub other : slice_get names r ≡ Some name
    pub up : is_own_up parts names count class.above r ≡ true
    pub apart : (r == m) ≡ false

  -- a method that a class runs for another one is the class's own, where it is of this class
  own_runner : (k m r name : ℕ) (c : KeptClass) → slice_get parts k ≡ Some c → owner p m ≡ Some k → m ≢ r → runs_for parts names c r name ≡ m
      → (is_own_of m c ≡ true) × (slice_get names m ≡ Some name)
  own_runner k m r name c there owned apart runs = by_own (own_named names name c) refl runs
    where
      by_nearest : (o : Option ℕ) → nearest_named parts names count c.above name ≡ o → unwrap_or o r ≡ m → (is_own_of m c ≡ true) × (slice_get names m ≡ Some name)
      by_nearest None none e = absurd (apart (sym e))
      by_nearest (Some x) found e =
          let i = nearest_named_is parts names count c.above name m (found ∙ ap Some e) in
          let h = own_has names name m i.class i.here in
          let at = same_Some i.number k (sym (p.owned i.number i.class i.there m name h.1 h.0) ∙ owner_is m ∙ owned) in
          let same = same_Some i.class c (sym i.there ∙ ap (slice_get parts) at ∙ there) in
          (subst (λ z. is_own_of m z ≡ true) same h.1, h.0)

      by_own : (o : Option ℕ) → own_named names name c ≡ o → unwrap_or (option_or o (nearest_named parts names count c.above name)) r ≡ m
          → (is_own_of m c ≡ true) × (slice_get names m ≡ Some name)
      by_own None none e = by_nearest (nearest_named parts names count c.above name) refl e
      by_own (Some x) found e = let h = own_has names name m c (found ∙ ap Some e) in (h.1, h.0)

  pub is_over : (m r : ℕ) → Overrides (program_of p) m r → IsOver m r
  is_over m r o =
      let k = o.method.class in
      let owned = ap (option_map (λ (x : Method). x.class)) o.is in
      let first = then_parts (λ c. target_in parts names c r) (slice_get parts k) m (sym (target_is k r) ∙ o.runs) in
      let c = first.0 in
      let second = then_parts (λ n. if has_or_inherits parts names c r then Some (runs_for parts names c r n) else None) (slice_get names r) m first.2 in
      let name = second.0 in
      let third = if_taken (has_or_inherits parts names c r) (Some (runs_for parts names c r name)) m second.2 in
      let own = own_runner k m r name c first.1 owned o.differs (same_Some (runs_for parts names c r name) m third.1) in
      let up = elim (or_cases (is_own_of r c) (is_own_up parts names count c.above r) third.0) as (λ _. is_own_up parts names count c.above r ≡ true) [
        | inl mine ↦ absurd (o.differs (same_Some m r (sym (p.named k c first.1 m name own.0 own.1) ∙ p.named k c first.1 r name mine second.1)))
        | inr later ↦ later
      ] in
      record {
        class = c;
        name = name;
        of_class = class_is k m name c first.1 own.0 own.1;
        named = own.1;
        other = second.1;
        up = up;
        apart = ne_eqb r m (λ same. o.differs (sym same));
      }

  -- exactly what is found by a method's name above its class, but for the method itself
  pub others_are : (m name : ℕ) (c : KeptClass) → class_of_method p m ≡ Some c → slice_get names m ≡ Some name → (r : ℕ)
      → Contains (filter (λ n. not (n == m)) (all_named parts names count c.above name)) r ↔ Overrides (program_of p) m r
  others_are m name c is named r = (
    (λ has.
        let k = was_kept m (all_named parts names count c.above name) r has in
        let i = all_named_are parts names count c.above name r k.0 in
        overrides_one m r name c is named (own_has names name r i.class i.here).0 i.up k.1),
    (λ o.
        let i = is_over m r o in
        let same_class = same_Some i.class c (sym i.of_class ∙ is) in
        let same_name = same_Some i.name name (sym i.named ∙ named) in
        kept m (all_named parts names count c.above name) r
        (all_named_have parts names p.named count c.above name r (subst (λ (z : KeptClass). is_own_up parts names count z.above r ≡ true) same_class i.up) (i.other ∙ ap Some same_name)) i.apart),
  )

  -- a method that stands in no class, or has no name, overrides none
  pub none_without_class : (m : ℕ) → class_of_method p m ≡ None → (r : ℕ) → Overrides (program_of p) m r → ⊥
  none_without_class m none r o = let i = is_over m r o in none-some i.class (sym none ∙ i.of_class)

  pub none_without_name : (m : ℕ) → slice_get names m ≡ None → (r : ℕ) → Overrides (program_of p) m r → ⊥
  none_without_name m none r o = let i = is_over m r o in none-some i.name (sym none ∙ i.named)

  -- ---- the next method that a method overrides

  pub next_overrides : (m r : ℕ) → next_overridden p m ≡ Some r → Overrides (program_of p) m r
  next_overrides m r e =
      let first = then_parts (λ c. option_and_then (next_named p m c) (slice_get names m)) (class_of_method p m) r e in
      let c = first.0 in
      let second = then_parts (next_named p m c) (slice_get names m) r first.2 in
      let third = then_parts (other_than m) (nearest_named parts names count c.above second.0) r second.2 in
      let apart = other_parts (third.0 == m) refl third.2 in
      let i = nearest_named_is parts names count c.above second.0 r (third.1 ∙ ap Some apart.0) in
      overrides_one m r second.0 c first.1 second.1 (own_has names second.0 r i.class i.here).0 i.up (ap (λ n. n == m) (sym apart.0) ∙ apart.1)
    where
      other_parts : {n : ℕ} (b : Bool) → (n == m) ≡ b → (if b then None else Some n) ≡ Some r → (n ≡ r) × ((n == m) ≡ false)
      other_parts true same f = absurd (none-some r f)
      other_parts {n} false other f = (same_Some n r f, other)

  -- from the method that a name finds above a class, each with that name is reached
  step : (q r first name : ℕ) (c : KeptClass) → class_of_method p q ≡ Some c → slice_get names q ≡ Some name → nearest_named parts names count c.above name ≡ Some first
      → (first ≡ r) ⊎ IsAncestor (next_overridden p) first r → (q ≡ r) ⊎ IsAncestor (next_overridden p) q r
  step q r first name c is named found on = by_test (first == q) refl on
    where
      next_is : (b : Bool) → (first == q) ≡ b → next_overridden p q ≡ (if b then None else Some first)
      next_is b test =
          ap (option_and_then (λ z. option_and_then (next_named p q z) (slice_get names q))) is
          ∙ ap (option_and_then (next_named p q c)) named ∙ ap (option_and_then (other_than q)) found ∙ ap (λ t. if t then None else Some first) test

      by_test : (b : Bool) → (first == q) ≡ b → (first ≡ r) ⊎ IsAncestor (next_overridden p) first r → (q ≡ r) ⊎ IsAncestor (next_overridden p) q r
      by_test true same on = subst (λ z. (z ≡ r) ⊎ IsAncestor (next_overridden p) z r) (eqb-true first q same) on
      by_test false other (inl e) = inr (0, ap (option_and_then (λ d. steps_up (next_overridden p) 0 d)) (next_is false other) ∙ ap Some e)
      by_test false other (inr (n, leads)) = inr (suc n, ap (option_and_then (λ d. steps_up (next_overridden p) (suc n) d)) (next_is false other) ∙ leads)

  record IsReached (n : ℕ) (from : Option ℕ) (name r : ℕ) : Type 0 where
    first : ℕ
    found : nearest_named parts names n from name ≡ Some first
    on : (first ≡ r) ⊎ IsAncestor (next_overridden p) first r

  reached : (n : ℕ) (from : Option ℕ) (name r : ℕ) → n ≤ count → is_own_up parts names n from r ≡ true → slice_get names r ≡ Some name → IsReached n from name r
  reached zero from name r low up is = absurd (let e : false ≡ true = up in cc)
  reached (suc n) None name r low up is = absurd (let e : false ≡ true = up in cc)
  reached (suc n) (Some k) name r low up is = in_class (slice_get parts k) refl (λ from later. reached n from name r (omega (arith, low)) later is)
    where
      in_class : (o : Option KeptClass) → slice_get parts k ≡ o → ((from : Option ℕ) → is_own_up parts names n from r ≡ true → IsReached n from name r) → IsReached (suc n) (Some k) name r
      in_class None gone further = absurd (let e : false ≡ true = sym (own_nowhere parts names (suc n) k r gone) ∙ up in cc)
      in_class (Some c) there further = by_own (own_named names name c) refl (or_cases (is_own_of r c) (is_own_up parts names n c.above r) (sym (own_at parts names n k r c there) ∙ up))
        where
          here : is_own_of r c ≡ true → own_named names name c ≡ Some r
          here mine = p.named k c there r name mine is

          by_own : (o : Option ℕ) → own_named names name c ≡ o → (is_own_of r c ≡ true) ⊎ (is_own_up parts names n c.above r ≡ true) → IsReached (suc n) (Some k) name r
          by_own (Some q) found (inl mine) = record {
            first = q;
            found = nearest_here parts names n (suc n) k name q c refl there found;
            on = inl (same_Some q r (sym found ∙ here mine));
          }
          by_own (Some q) found (inr later) =
              let h = own_has names name q c found in
              let rest = further c.above later in
              record {
                first = q;
                found = nearest_here parts names n (suc n) k name q c refl there found;
                on = step q r rest.first name c (class_is k q name c there h.1 h.0) h.0 (nearest_of_more parts names n count c.above name rest.first (omega (arith, low)) rest.found) rest.on;
              }
          by_own None none (inl mine) = absurd (none-some r (sym none ∙ here mine))
          by_own None none (inr later) =
              let rest = further c.above later in
              record { first = rest.first; found = nearest_on parts names n (suc n) k name c refl there none ∙ rest.found; on = rest.on }

  -- from a method all that it overrides are reached by the next, and the next of that, and so on
  pub over_leads : (m r : ℕ) → Overrides (program_of p) m r → IsAncestor (next_overridden p) m r
  over_leads m r o =
      let i = is_over m r o in
      let a = reached count i.class.above i.name r (omega arith) i.up i.other in
      elim (step m r a.first i.name i.class i.of_class i.named a.found a.on) as (λ _. IsAncestor (next_overridden p) m r) [
        | inl same ↦ absurd (o.differs same)
        | inr leads ↦ leads
      ]
