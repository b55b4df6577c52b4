-- Jumps up a line of classes: what is found behind a jump is what is found from where it begins.
use Rattle.std.proofs.Common.{◌≡◌, ℕ, zero, suc, ◌+◌, ◌<◌, ◌≤◌, ◌==◌, ◌||◌, Bool, true, false, List, [], ◌∷◌, Option, Some, None, is_some, refl, sym, ap, subst, ◌∙◌, arith, inl, inr, if◌then◌else◌, get_or, length, nat_lt, unwrap_or, slice_get, bytes_eq, position, option_map}
use Rattle.std.specs.List.{list_any, position_or_len}
use Rattle.std.specs.Option.{option_or, option_and_then}
use Rattle.std.proofs.Math.Nat.{eq-or-lt_of_le}
use Rattle.std.proofs.lemmas.Bool.{eqb-true, eqb-false, ltb-true, ltb-false, ne_eqb, false_from_ne_true}
use Rattle.std.proofs.lemmas.List.Sums.{passes_at_first}
use Rattle.std.proofs.lemmas.Option.{slice_get-get_or, slice_get_past, none-some}
use Rattle.std.proofs.lemmas.Slice.Eq.{bytes_eq-Decides}
use Rattle.base.specs.Ancestors.{reaches}
use Rattle.classes.specs.declared.jumps.Jump.{Jump}
use Rattle.classes.specs.Lines.{ancestors}
use Rattle.classes.specs.Table.{ClassData, TableData, above_in_table, class_and_ancestors, is_of_kind, first_found, own_field, own_method, field_in, number_of_own_method}
use Rattle.classes.specs.Jumps.{bucket, has_bucket, have_all, have_each, jump_at, IsFar, IsJump, AreJumps, AreOfBucket}

-- ---- names and their buckets

-- the name with this number, if there is one, is of these buckets
abbrev pub IsHeldAt : ℕ → List (List ℕ) → ℕ → Type 0
IsHeldAt buckets names i = (name : List ℕ) → slice_get names i ≡ Some name → has_bucket buckets (bucket name) ≡ true

-- where each of the names is of these buckets, they have them all
pub all_held : (buckets : ℕ) (names : List (List ℕ)) → ((i : ℕ) → i < length names → IsHeldAt buckets names i) → have_all buckets names
all_held buckets names at name some =
    let place = position_or_len (bytes_eq name) names in
    let low : nat_lt place (length names) ≡ true = there (nat_lt place (length names)) place some in
    let below : place < length names = ltb-true place (length names) low in
    let same : bytes_eq name (get_or names place []) ≡ true = passes_at_first (bytes_eq name) names [] below in
    subst (λ n. has_bucket buckets (bucket n) ≡ true) (sym ((bytes_eq-Decides name (get_or names place [])).0 same)) (at place below (get_or names place []) (slice_get-get_or names place [] below))
  where
    there : (b : Bool) (place : ℕ) → is_some (if b then Some place else None) ≡ true → b ≡ true
    there true place h = refl
    there false place h = h

-- ---- what one pass over all classes finds

pub one_more : (P : ℕ → Type 0) (n : ℕ) → ((k : ℕ) → k < n → P k) → P n → (k : ℕ) → k < n + 1 → P k
one_more P n before here k low = elim (eq-or-lt_of_le {n = k} {m = n} (omega (arith, low))) as (λ _. P k) [
  | inl same ↦ subst P (sym same) here
  | inr less ↦ before k less
]

-- past the end there are no classes, and what is said of them is so
beyond : (classes : List ClassData) (jumps : List Jump) (k : ℕ) → length classes ≤ k → length jumps ≤ k → IsJump classes jumps k
beyond classes jumps k past over =
    let at : jump_at jumps k ≡ record { depth = 0; to = k; names = 0 } = ap (λ o. unwrap_or o (record { depth = 0; to = k; names = 0 })) (slice_get_past jumps k over) in
    let none = slice_get_past classes k past in
    record {
      few = subst (λ (j : Jump). j.depth ≤ length classes) (sym at) (omega arith);
      names = λ c is. absurd (none-some c (sym none ∙ is));
      alone = λ _. ap (λ (j : Jump). j.to) at;
      below = λ d is. absurd (none-some d (sym (ap (option_and_then (λ (c : ClassData). c.above)) none) ∙ is));
    }

pub all_jumps : (classes : List ClassData) (jumps : List Jump) (n : ℕ) → length jumps ≡ length classes → length classes ≤ n → ((k : ℕ) → k < n → IsJump classes jumps k) → AreJumps classes jumps
all_jumps classes jumps n same all before k =
    elim (nat_lt k n) as (λ b. nat_lt k n ≡ b → IsJump classes jumps k) [
      | true ↦ λ is. before k (ltb-true k n is)
      | false ↦ λ is. beyond classes jumps k (let past = ltb-false k n is in omega (arith, past, all)) (let past = ltb-false k n is in omega (arith, past, all, same))
    ] refl

-- ---- the lines of a table with jumps

abbrev pub depth : List Jump → ℕ → ℕ
depth jumps k = (jump_at jumps k).depth

abbrev pub to : List Jump → ℕ → ℕ
to jumps k = (jump_at jumps k).to

-- jumps where this stands above each of so many classes
pub record IsClimb (above : ℕ → Option ℕ) (count : ℕ) (jumps : List Jump) : Type 0 where
  pub few : (k : ℕ) → depth jumps k ≤ count
  pub alone : (k : ℕ) → above k ≡ None → to jumps k ≡ k
  pub deeper : (k d : ℕ) → above k ≡ Some d → depth jumps k ≡ suc (depth jumps d)
  pub leads : (k d : ℕ) → above k ≡ Some d → (to jumps k ≡ d → ⊥) → IsFar jumps k d

pub climb_of : (t : TableData) (jumps : List Jump) → AreJumps t.classes jumps → IsClimb (above_in_table t) (length t.classes) jumps
climb_of t jumps are = record {
  few = λ k. (are k).few;
  alone = λ k is. (are k).alone is;
  deeper = λ k d is. ((are k).below d is).deeper;
  leads = λ k d is. ((are k).below d is).leads;
}

or_no : (b : Bool) → (b || false) ≡ b
or_no true = refl
or_no false = refl

apart : (c d : ℕ) → (c ≡ d → ⊥) → (c == d) ≡ false
apart c d h = ne_eqb c d h

module _ (above : ℕ → Option ℕ) (count : ℕ) (jumps : List Jump) (climb : IsClimb above count jumps) where
  -- a class and all above it
  abbrev line : ℕ → List ℕ
  line c = c ∷ ancestors above count (above c)

  none_above : (n : ℕ) → ancestors above n None ≡ []
  none_above zero = refl
  none_above (suc n) = refl

  enough : (n m c : ℕ) → depth jumps c < n → depth jumps c < m → ancestors above n (Some c) ≡ ancestors above m (Some c)
  enough zero m c h g = absurd (omega (arith, h))
  enough (suc n) zero c h g = absurd (omega (arith, g))
  enough (suc n) (suc m) c h g =
      elim (above c) as (λ o. above c ≡ o → c ∷ ancestors above n (above c) ≡ c ∷ ancestors above m (above c)) [
        | None ↦ λ is.
            ap (λ o. c ∷ ancestors above n o) is ∙ ap (λ r. c ∷ r) (none_above n ∙ sym (none_above m)) ∙ sym (ap (λ o. c ∷ ancestors above m o) is)
        | Some d ↦ λ is.
            let deep = climb.deeper c d is in
            ap (λ o. c ∷ ancestors above n o) is ∙ ap (λ r. c ∷ r) (enough n m d (omega (arith, deep, h)) (omega (arith, deep, g)))
            ∙ sym (ap (λ o. c ∷ ancestors above m o) is)
      ] refl

  line_above : (c d : ℕ) → above c ≡ Some d → line c ≡ c ∷ line d
  line_above c d is =
      let deep = climb.deeper c d is in
      let few = climb.few c in
      ap (λ o. c ∷ ancestors above count o) is ∙ ap (λ r. c ∷ r) (enough count (suc count) d (omega (arith, deep, few)) (omega (arith, deep, few)))

  line_alone : (c : ℕ) → above c ≡ None → line c ≡ c ∷ []
  line_alone c is = ap (λ o. c ∷ ancestors above count o) is ∙ ap (λ r. c ∷ r) (none_above count)

  -- ---- whether a class is on a line

  abbrev kind : ℕ → ℕ → Bool
  kind c d = list_any (λ x. x == d) (line c)

  none_reaches : (n d : ℕ) → reaches above n None d ≡ false
  none_reaches zero d = refl
  none_reaches (suc n) d = refl

  kind_is : (n c d : ℕ) → reaches above n (Some c) d ≡ list_any (λ x. x == d) (ancestors above (suc n) (Some c))
  kind_is zero c d = sym (ap (λ r. (c == d) || list_any (λ x. x == d) r) (nothing (above c)) ∙ or_no (c == d))
    where
      nothing : (o : Option ℕ) → ancestors above zero o ≡ []
      nothing None = refl
      nothing (Some e) = refl
  kind_is (suc n) c d =
      elim (above c) as (λ o. above c ≡ o → ((c == d) || reaches above n (above c) d) ≡ ((c == d) || list_any (λ x. x == d) (ancestors above (suc n) (above c)))) [
        | None ↦ λ is.
            ap (λ o. (c == d) || reaches above n o d) is ∙ ap (λ b. (c == d) || b) (none_reaches n d)
            ∙ sym (ap (λ o. (c == d) || list_any (λ x. x == d) (ancestors above (suc n) o)) is)
        | Some e ↦ λ is.
            ap (λ o. (c == d) || reaches above n o d) is ∙ ap (λ b. (c == d) || b) (kind_is n e d)
            ∙ sym (ap (λ o. (c == d) || list_any (λ x. x == d) (ancestors above (suc n) o)) is)
      ] refl

  kind_above : (c e d : ℕ) → above c ≡ Some e → depth jumps d < depth jumps c → kind c d ≡ kind e d
  kind_above c e d is low =
      ap (list_any (λ x. x == d)) (line_above c e is)
      ∙ ap (λ b. b || kind e d) (apart c d (λ same. let equal = ap (depth jumps) same in omega (arith, equal, low)))

  kind_alone : (c d : ℕ) → above c ≡ None → kind c d ≡ (c == d)
  kind_alone c d is = ap (list_any (λ x. x == d)) (line_alone c is) ∙ or_no (c == d)

  kind_high : (n c d : ℕ) → depth jumps c ≤ n → depth jumps c ≤ depth jumps d → kind c d ≡ (c == d)
  kind_high zero c d few low =
      elim (above c) as (λ o. above c ≡ o → kind c d ≡ (c == d)) [
        | None ↦ λ is. kind_alone c d is
        | Some e ↦ λ is. absurd (let deep = climb.deeper c e is in omega (arith, deep, few))
      ] refl
  kind_high (suc n) c d few low =
      elim (above c) as (λ o. above c ≡ o → kind c d ≡ (c == d)) [
        | None ↦ λ is. kind_alone c d is
        | Some e ↦ λ is.
            let deep = climb.deeper c e is in
            ap (list_any (λ x. x == d)) (line_above c e is)
            ∙ ap (λ b. (c == d) || b) (kind_high n e d (omega (arith, deep, few)) (omega (arith, deep, low)) ∙ apart e d (λ same. let equal = ap (depth jumps) same in omega (arith, equal, deep, low)))
            ∙ or_no (c == d)
      ] refl

  -- where a jump leads, whatever stands as high is met just as before it
  record IsUp (c j : ℕ) : Type 0 where
    higher : depth jumps j ≤ depth jumps c
    met : (d : ℕ) → depth jumps d ≤ depth jumps j → kind c d ≡ kind j d

  up_above : (c e : ℕ) → above c ≡ Some e → IsUp c e
  up_above c e is = record {
    higher = let deep = climb.deeper c e is in omega (arith, deep);
    met = λ d low. kind_above c e d is (let deep = climb.deeper c e is in omega (arith, deep, low));
  }

  up_both : (c e j : ℕ) → IsUp c e → IsUp e j → IsUp c j
  up_both c e j one two = record {
    higher = let a = one.higher in let b = two.higher in omega (arith, a, b);
    met = λ d low. one.met d (let b = two.higher in omega (arith, b, low)) ∙ two.met d low;
  }

  up_same : (c : ℕ) → IsUp c c
  up_same c = record { higher = omega arith; met = λ d low. refl }

  -- a jump below another class leads to it or further
  by_leap : (c e : ℕ) {P : Type 0} → above c ≡ Some e → (to jumps c ≡ e → P) → (IsFar jumps c e → P) → P
  by_leap c e {P} is near far =
      elim (to jumps c == e) as (λ b. (to jumps c == e) ≡ b → P) [
        | true ↦ λ same. near (eqb-true (to jumps c) e same)
        | false ↦ λ other. far (climb.leads c e is (eqb-false (to jumps c) e other))
      ] refl

  up : (n c : ℕ) → depth jumps c ≤ n → IsUp c (to jumps c)
  up zero c few =
      elim (above c) as (λ o. above c ≡ o → IsUp c (to jumps c)) [
        | None ↦ λ is. subst (λ j. IsUp c j) (sym (climb.alone c is)) (up_same c)
        | Some e ↦ λ is. absurd (let deep = climb.deeper c e is in omega (arith, deep, few))
      ] refl
  up (suc n) c few =
      elim (above c) as (λ o. above c ≡ o → IsUp c (to jumps c)) [
        | None ↦ λ is. subst (λ j. IsUp c j) (sym (climb.alone c is)) (up_same c)
        | Some e ↦ λ is.
            let deep = climb.deeper c e is in
            by_leap c e is
            (λ same. subst (λ j. IsUp c j) (sym same) (up_above c e is))
            (λ far.
            let first = up n e (omega (arith, deep, few)) in
            let second = up n (to jumps e) (let high = first.higher in omega (arith, deep, few, high)) in
            subst (λ j. IsUp c j) (sym far.leads) (up_both c e (to jumps (to jumps e)) (up_above c e is) (up_both e (to jumps e) (to jumps (to jumps e)) first second)))
      ] refl

  -- ---- what is found first on a line

  module _ (own : ℕ → Option ℕ) where
    abbrev found : ℕ → Option ℕ
    found c = first_found own (line c)

    or_other : (o rest : Option ℕ) → is_some o ≡ false → option_or o rest ≡ rest
    or_other (Some x) rest h = absurd (let clash : true ≡ false = h in cc)
    or_other None rest h = refl

    or_one : (o rest : Option ℕ) → is_some o ≡ true → option_or o rest ≡ o
    or_one (Some x) rest h = refl
    or_one None rest h = absurd (let clash : false ≡ true = h in cc)

    found_own : (c : ℕ) → is_some (own c) ≡ true → found c ≡ own c
    found_own c here = or_one (own c) (first_found own (ancestors above count (above c))) here

    found_on : (c d : ℕ) → above c ≡ Some d → is_some (own c) ≡ false → found c ≡ found d
    found_on c d is none = ap (first_found own) (line_above c d is) ∙ or_other (own c) (found d) none

    found_none : (c : ℕ) → above c ≡ None → is_some (own c) ≡ false → found c ≡ None
    found_none c is none = ap (first_found own) (line_alone c is) ∙ or_other (own c) None none

    module _ (one : ℕ) (low : one < 64) (of : AreOfBucket jumps own one) where
      not_own : (c : ℕ) → has_bucket (jump_at jumps c).names one ≡ false → is_some (own c) ≡ false
      not_own c lacks = false_from_ne_true (is_some (own c)) (λ some. let clash : true ≡ false = sym (of c some) ∙ lacks in cc)

      lacks_too : (c e : ℕ) → have_each (jump_at jumps c).names (jump_at jumps e).names → has_bucket (jump_at jumps c).names one ≡ false → has_bucket (jump_at jumps e).names one ≡ false
      lacks_too c e all lacks = false_from_ne_true (has_bucket (jump_at jumps e).names one) (λ has. let clash : true ≡ false = sym (all one low has) ∙ lacks in cc)

      passed : (n c : ℕ) → depth jumps c ≤ n → has_bucket (jump_at jumps c).names one ≡ false → found c ≡ found (to jumps c)
      passed zero c few lacks =
          elim (above c) as (λ o. above c ≡ o → found c ≡ found (to jumps c)) [
            | None ↦ λ is. ap found (sym (climb.alone c is))
            | Some e ↦ λ is. absurd (let deep = climb.deeper c e is in omega (arith, deep, few))
          ] refl
      passed (suc n) c few lacks =
          elim (above c) as (λ o. above c ≡ o → found c ≡ found (to jumps c)) [
            | None ↦ λ is. ap found (sym (climb.alone c is))
            | Some e ↦ λ is.
                let deep = climb.deeper c e is in
                by_leap c e is
                (λ same. found_on c e is (not_own c lacks) ∙ ap found (sym same))
                (λ far.
                let high = (up n e (omega (arith, deep, few))).higher in
                found_on c e is (not_own c lacks)
                ∙ passed n e (omega (arith, deep, few)) (lacks_too c e far.first lacks)
                ∙ passed n (to jumps e) (omega (arith, deep, few, high)) (lacks_too c (to jumps e) far.second lacks)
                ∙ ap found (sym far.leads))
          ] refl

-- ---- what the lookups of a table say

module _ (t : TableData) (jumps : List Jump) (are : AreJumps t.classes jumps) where
  abbrev up_line : ℕ → Option ℕ
  up_line = above_in_table t

  abbrev all : ℕ
  all = length t.classes

  of_kind : (c d : ℕ) → is_of_kind t c d ≡ kind up_line all jumps (climb_of t jumps are) c d
  of_kind c d = kind_is up_line all jumps (climb_of t jumps are) all c d

  pub kind_jumped : (c d : ℕ) → depth jumps d ≤ depth jumps (to jumps c) → is_of_kind t (to jumps c) d ≡ is_of_kind t c d
  kind_jumped c d low =
      of_kind (to jumps c) d
      ∙ sym ((up up_line all jumps (climb_of t jumps are) (depth jumps c) c (omega arith)).met d low)
      ∙ sym (of_kind c d)

  pub kind_risen : (c d deep : ℕ) (one two : Jump) → one ≡ jump_at jumps c → two ≡ jump_at jumps one.to → deep ≡ depth jumps d → deep ≤ two.depth
      → is_of_kind t one.to d ≡ is_of_kind t c d
  kind_risen c d deep one two is_one is_two is_deep high =
      let first = ap (λ (o : Jump). depth jumps o.to) is_one in
      let second = ap (λ (o : Jump). o.depth) is_two in
      subst (λ (o : Jump). is_of_kind t o.to d ≡ is_of_kind t c d) (sym is_one) (kind_jumped c d (omega (arith, first, second, is_deep, high)))

  pub kind_stepped : (c e d : ℕ) → up_line c ≡ Some e → depth jumps d < depth jumps c → is_of_kind t e d ≡ is_of_kind t c d
  kind_stepped c e d is low = of_kind e d ∙ sym (kind_above up_line all jumps (climb_of t jumps are) c e d is low) ∙ sym (of_kind c d)

  pub kind_level : (c d : ℕ) → depth jumps c ≤ depth jumps d → (c == d) ≡ is_of_kind t c d
  kind_level c d low = sym (of_kind c d ∙ kind_high up_line all jumps (climb_of t jumps are) (depth jumps c) c d (omega arith) low)

  pub found_jumped : (own : ℕ → Option ℕ) (one : ℕ) → one < 64 → AreOfBucket jumps own one → (c : ℕ) → has_bucket (jump_at jumps c).names one ≡ false
      → first_found own (class_and_ancestors t (to jumps c)) ≡ first_found own (class_and_ancestors t c)
  found_jumped own one low of c lacks = sym (passed up_line all jumps (climb_of t jumps are) own one low of (depth jumps c) c (omega arith) lacks)

  pub found_passed : (own : ℕ → Option ℕ) (one : ℕ) → one < 64 → AreOfBucket jumps own one → (c : ℕ) (j : Jump) → j ≡ jump_at jumps c → has_bucket j.names one ≡ false
      → first_found own (class_and_ancestors t j.to) ≡ first_found own (class_and_ancestors t c)
  found_passed own one low of c j is lacks =
      subst (λ (o : Jump). first_found own (class_and_ancestors t o.to) ≡ first_found own (class_and_ancestors t c)) (sym is)
      (found_jumped own one low of c (ap (λ (o : Jump). has_bucket o.names one) (sym is) ∙ lacks))

  pub found_stepped : (own : ℕ → Option ℕ) (c e : ℕ) → up_line c ≡ Some e → is_some (own c) ≡ false
      → first_found own (class_and_ancestors t e) ≡ first_found own (class_and_ancestors t c)
  found_stepped own c e is none = sym (found_on up_line all jumps (climb_of t jumps are) own c e is none)

  pub found_ended : (own : ℕ → Option ℕ) (c : ℕ) → up_line c ≡ None → is_some (own c) ≡ false → None ≡ first_found own (class_and_ancestors t c)
  found_ended own c is none = sym (found_none up_line all jumps (climb_of t jumps are) own c is none)

  pub found_there : (own : ℕ → Option ℕ) (c : ℕ) → is_some (own c) ≡ true → own c ≡ first_found own (class_and_ancestors t c)
  found_there own c here = sym (found_own up_line all jumps (climb_of t jumps are) own c here)

  numbered : (f : ℕ → ℕ) (o : Option ℕ) → is_some (option_map f o) ≡ true → is_some o ≡ true
  numbered f None h = h
  numbered f (Some x) h = refl

  pub fields_fall : (name : List ℕ) → AreOfBucket jumps (own_field t name) (bucket name)
  fields_fall name k some = cases (slice_get t.classes k) refl some
    where
      cases : (o : Option ClassData) → slice_get t.classes k ≡ o → is_some (option_and_then (field_in name) o) ≡ true → has_bucket (jump_at jumps k).names (bucket name) ≡ true
      cases None is h = absurd (let clash : false ≡ true = h in cc)
      cases (Some c) is h = ((are k).names c is).0 name (numbered (λ i. c.first_field + i) (position (bytes_eq name) c.field_names) h)

  pub methods_fall : (name : List ℕ) → AreOfBucket jumps (own_method t name) (bucket name)
  methods_fall name k some = cases (slice_get t.classes k) refl some
    where
      cases : (o : Option ClassData) → slice_get t.classes k ≡ o → is_some (option_and_then (number_of_own_method name) o) ≡ true → has_bucket (jump_at jumps k).names (bucket name) ≡ true
      cases None is h = absurd (let clash : false ≡ true = h in cc)
      cases (Some c) is h = ((are k).names c is).1 name (numbered (λ i. c.first_method + i) (position (bytes_eq name) c.method_names) h)
