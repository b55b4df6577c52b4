-- The classes that a core program tells, by numbers for the names of methods, are those of the class table.
use Rattle.std.proofs.Common.{◌≡◌, ◌+◌, ◌-◌, ◌==◌, ◌||◌, ◌&&◌, inl, inr, ℕ, zero, suc, Bool, true, false, List, [], ◌∷◌, ◌++◌, length, map, take, drop, cond, nat_le, nat_lt, Option, Some, None, refl, sym, ap, ap₂, ◌∙◌, arith, slice_get, position, bytes_eq, get_or, option_map, option_and_then, unwrap_or, length-append, if◌then◌else◌}
use Rattle.std.proofs.Math.Bool.{or-false}
use Rattle.std.specs.Cmp.{both_ways}
use Rattle.std.specs.List.{position_from}
use Rattle.std.specs.Option.{option_or}
use Rattle.std.proofs.lemmas.Bool.{eqb-true, eq-eqb, leb-true, le-leb, ltb-true, lt-ltb, and_parts, and_from}
use Rattle.std.proofs.lemmas.Iterator.Adapters.{position_from-zero}
use Rattle.std.proofs.lemmas.List.{length-map, length-take-le, length-drop}
use Rattle.std.proofs.lemmas.List.Quantifiers.{position-Some}
use Rattle.std.proofs.lemmas.Option.{none-some, same_Some, slice_get_within}
use Rattle.std.proofs.lemmas.Slice.Eq.{bytes_eq-Decides}
use Rattle.base.specs.Ancestors.{reaches}
use Rattle.base.proofs.Lists.{at_either, at_left, get_below, get_right}
use Rattle.base.proofs.Options.{map_parts}
use Rattle.core_program.specs.Core.{Class}
use Rattle.core_program.specs.Pairs.{KeptClass, is_own_of, own_named, part_above, is_own_in, named_in, is_own_up, nearest_named, has_or_inherits, runs_for, pairs_from, class_with_pairs, AreNamedOnce, AreOwned}
use Rattle.core_program.proofs.NamedPlaces.{counted_from}
use Rattle.core_program.proofs.NamedParts.{in_taken, in_dropped}
use Rattle.classes.specs.Lines.{ancestors}
use Rattle.classes.specs.Table.{TableData, ClassData, MethodData, above_in_table, first_found, is_of_kind, number_of_own_method, own_method}
use Rattle.classes.proofs.Parts.{mapped_at, before_mapped}
use Rattle.typing.specs.Classes.{runner, targets_from, class_core, all_classes}
use Rattle.typing.specs.Kept.{AreNumbered, class_part, all_parts}
use Rattle.typing.specs.Order.{IsOwnPart, IsLined}
use Rattle.typing.proofs.Lined.{part_there, parts_many}
use Rattle.typing.proofs.Paired.{each_of, named_itself}

-- two lists in step, in which what is looked for is found at the same places
in_step : (x : ℕ) (text : List ℕ) (from : ℕ) (xs : List ℕ) (ys : List (List ℕ)) → length xs ≡ length ys
    → ((j y : ℕ) (z : List ℕ) → slice_get xs j ≡ Some y → slice_get ys j ≡ Some z → (y == x) ≡ bytes_eq text z)
    → position_from (λ n. n == x) from xs ≡ position_from (bytes_eq text) from ys
in_step x text from [] [] long each = refl
in_step x text from [] (z ∷ ys) long each = absurd (omega (arith, long))
in_step x text from (y ∷ xs) [] long each = absurd (omega (arith, long))
in_step x text from (y ∷ xs) (z ∷ ys) long each =
    ap₂ (λ b o. cond b (Some from) o) (each 0 y z refl refl) (in_step x text (from + 1) xs ys (omega (arith, long)) (λ j u v. each (suc j) u v))

module _ (t : TableData) (lined : IsLined t) (numbers : List ℕ) (are : AreNumbered t.methods numbers) where
  abbrev parts : List KeptClass
  parts = all_parts t 0 t.classes

  abbrev up_in : ℕ → Option ℕ
  up_in = above_in_table t

  -- ---- numbers of names

  long : length numbers ≡ length t.methods
  long = sym (length-map numbers (λ n. Some n)) ∙ ap length are.1 ∙ length-map t.methods (λ m. position (bytes_eq m.name) are.0)

  number_is : (n x : ℕ) (m : MethodData) → slice_get t.methods n ≡ Some m → slice_get numbers n ≡ Some x → position (bytes_eq m.name) are.0 ≡ Some x
  number_is n x m at is =
      same_Some (position (bytes_eq m.name) are.0) (Some x)
      (sym (mapped_at (λ (d : MethodData). position (bytes_eq d.name) are.0) t.methods n m at) ∙ ap (λ z. slice_get z n) (sym are.1) ∙ mapped_at (λ (y : ℕ). Some y) numbers n x is)

  -- the numbers of two names are one where the names are
  same_number : (i j x y : ℕ) (m d : MethodData) → slice_get t.methods i ≡ Some m → slice_get numbers i ≡ Some x → slice_get t.methods j ≡ Some d → slice_get numbers j ≡ Some y
      → (y == x) ≡ bytes_eq m.name d.name
  same_number i j x y m d at is other_at other_is = both_ways (y == x) (bytes_eq m.name d.name) down back
    where
      first : position (bytes_eq m.name) are.0 ≡ Some x
      first = number_is i x m at is

      second : position (bytes_eq d.name) are.0 ≡ Some y
      second = number_is j y d other_at other_is

      down : (y == x) ≡ true → bytes_eq m.name d.name ≡ true
      down h =
          let one = (bytes_eq-Decides m.name _).0 (position-Some (bytes_eq m.name) are.0 x [] first).1 in
          let two = (bytes_eq-Decides d.name _).0 (position-Some (bytes_eq d.name) are.0 y [] second).1 in
          (bytes_eq-Decides m.name d.name).1 (one ∙ ap (λ n. get_or are.0 n []) (sym (eqb-true y x h)) ∙ sym two)

      back : bytes_eq m.name d.name ≡ true → (y == x) ≡ true
      back h =
          let same = (bytes_eq-Decides m.name d.name).0 h in
          eq-eqb y x (same_Some y x (sym second ∙ ap (λ text. position (bytes_eq text) are.0) (sym same) ∙ first))

  -- ---- a class's own methods

  module _ (k : ℕ) (c : ClassData) (at : slice_get t.classes k ≡ Some c) where
    abbrev own : IsOwnPart t k c
    own = lined.methods k c at

    own_there : (i : ℕ) (m : MethodData) → slice_get own.own i ≡ Some m → slice_get t.methods (c.first_method + i) ≡ Some m
    own_there i m is =
        let number : c.first_method + i ≡ length own.before + i = omega (arith, own.first) in
        ap (slice_get t.methods) number ∙ ap (λ z. slice_get z (length own.before + i)) own.whole
        ∙ get_right own.before (own.own ++ own.after) i ∙ at_left own.own own.after i m is

    own_long : length own.own ≡ length c.method_names
    own_long = sym (length-map own.own (λ (m : MethodData). m.name)) ∙ ap length own.names

    whole_long : length t.methods ≡ length own.before + (length own.own + length own.after)
    whole_long = ap length own.whole ∙ length-append own.before (own.own ++ own.after) ∙ ap (λ n. length own.before + n) (length-append own.own own.after)

    window_long : length (take (length c.method_names) (drop c.first_method numbers)) ≡ length c.method_names
    window_long = length-take-le (length c.method_names) (drop c.first_method numbers) (omega (arith, length-drop c.first_method numbers, long, whole_long, own_long, own.first))

    -- a name is found among the class's own by its number as by its text
    named_as : (n x : ℕ) (m : MethodData) → slice_get t.methods n ≡ Some m → slice_get numbers n ≡ Some x → own_named numbers x (class_part t k c) ≡ number_of_own_method m.name c
    named_as n x m there is =
        let window = take (length c.method_names) (drop c.first_method numbers) in
        counted_from (λ y. y == x) c.first_method window
        ∙ ap (option_map (λ i. c.first_method + i))
        (position_from-zero (λ y. y == x) window ∙ in_step x m.name 0 window c.method_names window_long in_window ∙ sym (position_from-zero (bytes_eq m.name) c.method_names))
      where
        in_window : (j y : ℕ) (z : List ℕ) → slice_get (take (length c.method_names) (drop c.first_method numbers)) j ≡ Some y → slice_get c.method_names j ≡ Some z → (y == x) ≡ bytes_eq m.name z
        in_window j y z here text =
            let d = before_mapped (λ (d : MethodData). d.name) own.own j z (ap (λ q. slice_get q j) own.names ∙ text) in
            let number = in_dropped c.first_method numbers j y (in_taken (length c.method_names) (drop c.first_method numbers) j y here).1 in
            same_number n (c.first_method + j) x y m d.0 there is (own_there j d.0 d.1) number ∙ ap (bytes_eq m.name) d.2

    -- a method is one of the class's own where its class is this one
    owns_as : (n : ℕ) (m : MethodData) → slice_get t.methods n ≡ Some m → is_own_of n (class_part t k c) ≡ (k == m.class)
    owns_as n m there = both_ways (is_own_of n (class_part t k c)) (k == m.class) down back
      where
        down : (nat_le c.first_method n && nat_lt n (c.first_method + length c.method_names)) ≡ true → (k == m.class) ≡ true
        down h =
            let both = and_parts (nat_le c.first_method n) (nat_lt n (c.first_method + length c.method_names)) h in
            let low = leb-true c.first_method n both.0 in
            let high = ltb-true n (c.first_method + length c.method_names) both.1 in
            let d = get_below own.own (n - c.first_method) (omega (arith, low, high, own_long)) in
            let number : c.first_method + (n - c.first_method) ≡ n = omega (arith, low) in
            let same = same_Some d.0 m (sym (own_there (n - c.first_method) d.0 d.1) ∙ ap (slice_get t.methods) number ∙ there) in
            eq-eqb k m.class (sym (each_of (λ (z : MethodData). z.class ≡ k) own.own (n - c.first_method) d.0 own.mine d.1) ∙ ap (λ (z : MethodData). z.class) same)

        none : {A : Type 0} → (k == m.class) ≡ false → (k == m.class) ≡ true → A
        none other mine = absurd (let e : true ≡ false = sym mine ∙ other in cc)

        back : (k == m.class) ≡ true → (nat_le c.first_method n && nat_lt n (c.first_method + length c.method_names)) ≡ true
        back h =
            elim (at_either own.before (own.own ++ own.after) n m (ap (λ z. slice_get z n) (sym own.whole) ∙ there))
            as (λ _. (nat_le c.first_method n && nat_lt n (c.first_method + length c.method_names)) ≡ true) [
              | inl early ↦ none (each_of (λ (z : MethodData). (k == z.class) ≡ false) own.before n m own.others_before early) h
              | inr later ↦ elim (at_either own.own own.after later.0 m later.2) as (λ _. (nat_le c.first_method n && nat_lt n (c.first_method + length c.method_names)) ≡ true) [
                | inl here ↦
                    let within = slice_get_within own.own later.0 m here in
                    let place = later.1 in
                    and_from (nat_le c.first_method n) (nat_lt n (c.first_method + length c.method_names))
                    (le-leb c.first_method n (omega (arith, own.first, place))) (lt-ltb n (c.first_method + length c.method_names) (omega (arith, own.first, place, within, own_long)))
                | inr late ↦ none (each_of (λ (z : MethodData). (k == z.class) ≡ false) own.after late.0 m own.others_after late.2) h
              ]
            ]

  -- ---- going up

  above_as : (k : ℕ) → part_above parts numbers k ≡ above_in_table t k
  above_as k = ap (option_and_then (λ (c : KeptClass). c.above)) (part_there t k) ∙ by_class (slice_get t.classes k)
    where
      by_class : (o : Option ClassData) → option_and_then (λ (c : KeptClass). c.above) (option_map (class_part t k) o) ≡ option_and_then (λ (c : ClassData). c.above) o
      by_class None = refl
      by_class (Some c) = refl

  module _ (n x : ℕ) (m : MethodData) (there : slice_get t.methods n ≡ Some m) (is : slice_get numbers n ≡ Some x) where
    own_in_as : (k : ℕ) → is_own_in parts numbers (slice_get parts k) n ≡ (k == m.class)
    own_in_as k = ap (λ o. is_own_in parts numbers o n) (part_there t k) ∙ by_class (slice_get t.classes k) refl
      where
        absent : slice_get t.classes k ≡ None → (b : Bool) → (k == m.class) ≡ b → false ≡ b
        absent gone true same =
            let c = get_below t.classes m.class (lined.owned n m there) in
            absurd (none-some c.0 (sym gone ∙ ap (slice_get t.classes) (eqb-true k m.class same) ∙ c.1))
        absent gone false same = refl

        by_class : (o : Option ClassData) → slice_get t.classes k ≡ o → is_own_in parts numbers (option_map (class_part t k) o) n ≡ (k == m.class)
        by_class None gone = absent gone (k == m.class) refl
        by_class (Some c) at = owns_as k c at n m there

    named_in_as : (k : ℕ) → named_in parts numbers x k ≡ own_method t m.name k
    named_in_as k = ap (option_and_then (own_named numbers x)) (part_there t k) ∙ by_class (slice_get t.classes k) refl
      where
        by_class : (o : Option ClassData) → slice_get t.classes k ≡ o → option_and_then (own_named numbers x) (option_map (class_part t k) o) ≡ option_and_then (number_of_own_method m.name) o
        by_class None gone = refl
        by_class (Some c) at = named_as k c at n x m there is

    up_as : (j : ℕ) (from : Option ℕ) → is_own_up parts numbers (suc j) from n ≡ reaches up_in j from m.class
    up_as zero None = refl
    up_as zero (Some k) = or-false (is_own_in parts numbers (slice_get parts k) n) ∙ own_in_as k
    up_as (suc j) None = refl
    up_as (suc j) (Some k) = ap₂ ◌||◌ (own_in_as k) (ap (λ o. is_own_up parts numbers (suc j) o n) (above_as k) ∙ up_as j (above_in_table t k))

    nearest_as : (j : ℕ) (from : Option ℕ) → nearest_named parts numbers j from x ≡ first_found (own_method t m.name) (ancestors up_in j from)
    nearest_as zero None = refl
    nearest_as zero (Some k) = refl
    nearest_as (suc j) None = refl
    nearest_as (suc j) (Some k) = ap₂ option_or (named_in_as k) (ap (λ o. nearest_named parts numbers j o x) (above_as k) ∙ nearest_as j (above_in_table t k))

    module _ (k : ℕ) (c : ClassData) (at : slice_get t.classes k ≡ Some c) where
      above_is : above_in_table t k ≡ c.above
      above_is = ap (option_and_then (λ (z : ClassData). z.above)) at

      -- a class has a method where it is of the kind of the method's class
      has_as : has_or_inherits parts numbers (class_part t k c) n ≡ is_of_kind t k m.class
      has_as = by_count (length t.classes) refl
        where
          by_count : (count : ℕ) → length t.classes ≡ count → has_or_inherits parts numbers (class_part t k c) n ≡ reaches up_in (length t.classes) (Some k) m.class
          by_count zero none = absurd (let low = slice_get_within t.classes k c at in omega (arith, low, none))
          by_count (suc j) many =
              ap₂ ◌||◌ (owns_as k c at n m there)
              (ap (λ l. is_own_up parts numbers l c.above n) (parts_many t ∙ many) ∙ up_as j c.above ∙ ap (λ o. reaches up_in j o m.class) (sym above_is))
              ∙ ap (λ l. reaches up_in l (Some k) m.class) (sym many)

      -- and runs the same for it
      runs_as : runs_for parts numbers (class_part t k c) n x ≡ runner t k n m
      runs_as =
          ap (λ o. unwrap_or o n)
          (ap₂ option_or (named_as k c at n x m there is ∙ sym (ap (option_and_then (number_of_own_method m.name)) at))
          (ap (λ l. nearest_named parts numbers l c.above x) (parts_many t) ∙ nearest_as (length t.classes) c.above
          ∙ ap (λ o. first_found (own_method t m.name) (ancestors up_in (length t.classes) o)) (sym above_is)))

  -- ---- whole classes

  module _ (k : ℕ) (c : ClassData) (at : slice_get t.classes k ≡ Some c) where
    pairs_as : (i : ℕ) (xs : List ℕ) (ms : List MethodData) → length xs ≡ length ms
        → ((j n x : ℕ) (m : MethodData) → n ≡ i + j → slice_get xs j ≡ Some x → slice_get ms j ≡ Some m → (slice_get numbers n ≡ Some x) × (slice_get t.methods n ≡ Some m))
        → pairs_from parts numbers (class_part t k c) i xs ≡ targets_from t k i ms
    pairs_as i [] [] same each = refl
    pairs_as i [] (m ∷ ms) same each = absurd (omega (arith, same))
    pairs_as i (x ∷ xs) [] same each = absurd (omega (arith, same))
    pairs_as i (x ∷ xs) (m ∷ ms) same each =
        let h = each 0 i x m (omega arith) refl refl in
        ap (λ b. if b then (i, runs_for parts numbers (class_part t k c) i x) ∷ pairs_from parts numbers (class_part t k c) (i + 1) xs else pairs_from parts numbers (class_part t k c) (i + 1) xs)
        (has_as i x m h.1 h.0 k c at)
        ∙ ap₂ (λ r ps. if is_of_kind t k m.class then (i, r) ∷ ps else ps) (runs_as i x m h.1 h.0 k c at)
        (pairs_as (i + 1) xs ms (omega (arith, same)) (λ j n y d number. each (suc j) n y d (omega (arith, number))))

    class_as : class_with_pairs parts numbers (class_part t k c) ≡ class_core t k c
    class_as =
        ap {B = Class} (λ pairs. record (class_core t k c) { targets = pairs })
        (pairs_as 0 numbers t.methods long (λ j n x m number is there. let e : j ≡ n = omega (arith, number) in (ap (slice_get numbers) (sym e) ∙ is, ap (slice_get t.methods) (sym e) ∙ there)))

  classes_from : (k : ℕ) (cs : List ClassData) → ((i j : ℕ) (c : ClassData) → j ≡ k + i → slice_get cs i ≡ Some c → slice_get t.classes j ≡ Some c)
      → map (class_with_pairs parts numbers) (all_parts t k cs) ≡ all_classes t k cs
  classes_from k [] each = refl
  classes_from k (c ∷ cs) each = ap₂ (λ z zs. z ∷ zs) (class_as k c (each 0 k c (omega arith) refl)) (classes_from (k + 1) cs (λ i j d number. each (suc i) j d (omega (arith, number))))

  pub classes_as : map (class_with_pairs parts numbers) parts ≡ all_classes t 0 t.classes
  classes_as = classes_from 0 t.classes (λ i j c number is. let e : j ≡ i = omega (arith, number) in ap (slice_get t.classes) e ∙ is)

  -- ---- what a program knows of its parts

  record IsOwnOf (k n : ℕ) : Type 0 where
    class : ClassData
    at : slice_get t.classes k ≡ Some class
    method : MethodData
    there : slice_get t.methods n ≡ Some method
    mine : k ≡ method.class

  own_of : (k n x : ℕ) (p : KeptClass) → slice_get parts k ≡ Some p → is_own_of n p ≡ true → slice_get numbers n ≡ Some x → (o : IsOwnOf k n) × (class_part t k o.class ≡ p)
  own_of k n x p part mine is =
      let c = map_parts (class_part t k) (slice_get t.classes k) p (sym (part_there t k) ∙ part) in
      let m = get_below t.methods n (let low = slice_get_within numbers n x is in omega (arith, low, long)) in (
        record {
          class = c.0;
          at = c.1;
          method = m.0;
          there = m.1;
          mine = eqb-true k m.0.class (sym (owns_as k c.0 c.1 n m.0 m.1) ∙ ap (is_own_of n) c.2 ∙ mine);
        },
        c.2,
      )

  pub named_once : AreNamedOnce parts numbers
  named_once k p part n x mine is =
      let (o, same) = own_of k n x p part mine is in
      ap (own_named numbers x) (sym same) ∙ named_as k o.class o.at n x o.method o.there is
      ∙ sym (ap (option_and_then (number_of_own_method o.method.name)) o.at) ∙ ap (own_method t o.method.name) o.mine ∙ named_itself t lined n o.method o.there

  pub owned_as : (owners : List ℕ) → owners ≡ map (λ (m : MethodData). m.class) t.methods → AreOwned parts numbers owners
  owned_as owners same k p part n x mine is =
      let o = (own_of k n x p part mine is).0 in
      ap (λ z. slice_get z n) same ∙ mapped_at (λ (m : MethodData). m.class) t.methods n o.method o.there ∙ ap Some (sym o.mine)
