-- What a class of a table has, from what the class above it has.
use Rattle.std.proofs.Common.{◌≡◌, ◌+◌, ℕ, zero, suc, List, [], ◌∷◌, ◌++◌, length, filter, flat_map, reverse, Option, Some, None, refl, sym, ap, ◌∙◌, arith, slice_get, option_map, option_and_then, if◌then◌else◌, append-nil, length-append}
use Rattle.std.specs.Prelude.{codes}
use Rattle.std.specs.Option.{option_or}
use Rattle.std.proofs.lemmas.List.{reverse-append}
use Rattle.std.proofs.lemmas.Grind.{flat_map-append}
use Rattle.core_program.specs.Pairs.{KeptClass}
use Rattle.classes.specs.Table.{TableData, ClassData, above_in_table, number_of_own_method, own_method, method_number}
use Rattle.typing.specs.Classes.{own_field_numbers, is_final_in, fields_of_each, field_numbers, ancestors_in, inherited_count, class_core, class_of_number, all_classes}
use Rattle.typing.specs.Kept.{class_part, part_of_number, all_parts}
use Rattle.typing.specs.Merged.{class_over}
use Rattle.typing.specs.Order.{IsLined}
use Rattle.typing.proofs.Ancestry.{ancestors_on, line_top, found_on, found_top}

module _ (t : TableData) where
  -- ---- the core classes by their numbers

  class_from : (k : ℕ) (cs : List ClassData) (i j : ℕ) → j ≡ k + i → slice_get (all_classes t k cs) i ≡ option_map (class_core t j) (slice_get cs i)
  class_from k [] i j number = refl
  class_from k (c ∷ cs) zero j number = let same : k ≡ j = omega (arith, number) in ap (λ n. Some (class_core t n c)) same
  class_from k (c ∷ cs) (suc i) j number = class_from (k + 1) cs i j (omega (arith, number))

  pub class_there : (k : ℕ) → slice_get (all_classes t 0 t.classes) k ≡ class_of_number t k
  class_there k = class_from 0 t.classes k k (omega arith)

  classes_many : (k : ℕ) (cs : List ClassData) → length (all_classes t k cs) ≡ length cs
  classes_many k [] = refl
  classes_many k (c ∷ cs) = ap suc (classes_many (k + 1) cs)

  pub all_many : length (all_classes t 0 t.classes) ≡ length t.classes
  all_many = classes_many 0 t.classes

  -- ---- what is kept of them

  part_from : (k : ℕ) (cs : List ClassData) (i j : ℕ) → j ≡ k + i → slice_get (all_parts t k cs) i ≡ option_map (class_part t j) (slice_get cs i)
  part_from k [] i j number = refl
  part_from k (c ∷ cs) zero j number = let same : k ≡ j = omega (arith, number) in ap (λ n. Some (class_part t n c)) same
  part_from k (c ∷ cs) (suc i) j number = part_from (k + 1) cs i j (omega (arith, number))

  pub part_there : (k : ℕ) → slice_get (all_parts t 0 t.classes) k ≡ part_of_number t k
  part_there k = part_from 0 t.classes k k (omega arith)

  count_from : (k : ℕ) (cs : List ClassData) → length (all_parts t k cs) ≡ length cs
  count_from k [] = refl
  count_from k (c ∷ cs) = ap suc (count_from (k + 1) cs)

  pub parts_many : length (all_parts t 0 t.classes) ≡ length t.classes
  parts_many = count_from 0 t.classes

  -- ---- fields

  fields_more : (k : ℕ) (ks : List ℕ) → fields_of_each t (k ∷ ks) ≡ fields_of_each t ks ++ own_field_numbers (slice_get t.classes k)
  fields_more k ks =
      let own : ℕ → List ℕ = λ j. own_field_numbers (slice_get t.classes j) in
      ap (flat_map own) (reverse-append (k ∷ []) ks) ∙ flat_map-append own (reverse ks) (k ∷ []) ∙ ap (λ z. flat_map own (reverse ks) ++ z) (append-nil (own k))

  -- those from above, and then its own
  pub fields_are : (k : ℕ) → field_numbers t k ≡ fields_of_each t (ancestors_in t k) ++ own_field_numbers (slice_get t.classes k)
  fields_are k = fields_more k (ancestors_in t k)

  module _ (lined : IsLined t) where
    abbrev up_in : ℕ → Option ℕ
    up_in = above_in_table t

    pub inherited_on : (k d : ℕ) → above_in_table t k ≡ Some d → fields_of_each t (ancestors_in t k) ≡ field_numbers t d
    inherited_on k d above = ap (fields_of_each t) (ancestors_on up_in (length t.classes) lined.below lined.apart k d above)

    pub fields_on : (k d : ℕ) → above_in_table t k ≡ Some d → field_numbers t k ≡ field_numbers t d ++ own_field_numbers (slice_get t.classes k)
    fields_on k d above = fields_are k ∙ ap (λ z. z ++ own_field_numbers (slice_get t.classes k)) (inherited_on k d above)

    none_inherited : (k : ℕ) → above_in_table t k ≡ None → ancestors_in t k ≡ []
    none_inherited k none = tail_of k (ancestors_in t k) (line_top up_in (length t.classes) lined.below lined.apart k none)
      where
        tail_of : (k : ℕ) (ks : List ℕ) → k ∷ ks ≡ k ∷ [] → ks ≡ []
        tail_of k [] h = refl
        tail_of k (j ∷ ks) h = absurd cc

    pub fields_top : (k : ℕ) → above_in_table t k ≡ None → field_numbers t k ≡ own_field_numbers (slice_get t.classes k)
    fields_top k none = fields_are k ∙ ap (λ ks. fields_of_each t ks ++ own_field_numbers (slice_get t.classes k)) (none_inherited k none)

    pub count_top : (k : ℕ) → above_in_table t k ≡ None → inherited_count t k ≡ 0
    count_top k none = ap (λ ks. length (fields_of_each t ks)) (none_inherited k none)

    pub count_on : (k d : ℕ) → above_in_table t k ≡ Some d → inherited_count t k ≡ inherited_count t d + length (own_field_numbers (slice_get t.classes d))
    count_on k d above =
        ap length (inherited_on k d above ∙ fields_are d)
        ∙ length-append (fields_of_each t (ancestors_in t d)) (own_field_numbers (slice_get t.classes d))

    -- ---- methods by name

    pub named_on : (name : List ℕ) (k d : ℕ) → above_in_table t k ≡ Some d → method_number t k name ≡ option_or (own_method t name k) (method_number t d name)
    named_on name k d above = found_on up_in (length t.classes) lined.below lined.apart (own_method t name) k d above

    pub named_top : (name : List ℕ) (k : ℕ) → above_in_table t k ≡ None → method_number t k name ≡ own_method t name k
    named_top name k none = found_top up_in (length t.classes) lined.below lined.apart (own_method t name) k none

    -- the first method of a name in the class is found first
    pub found_first : (k : ℕ) (c : ClassData) → slice_get t.classes k ≡ Some c → (name : List ℕ) (n : ℕ) → number_of_own_method name c ≡ Some n → method_number t k name ≡ Some n
    found_first k c at name n is = by_above (above_in_table t k) refl
      where
        own_there : own_method t name k ≡ Some n
        own_there = ap (option_and_then (number_of_own_method name)) at ∙ is

        by_above : (o : Option ℕ) → above_in_table t k ≡ o → method_number t k name ≡ Some n
        by_above None none = named_top name k none ∙ own_there
        by_above (Some d) is = named_on name k d is ∙ ap (λ o. option_or o (method_number t d name)) own_there

    -- ---- what is kept of a class

    -- a class of these parts
    abbrev part_with : ClassData → Option ℕ → List ℕ → KeptClass
    part_with c run fields = record {
      fields = fields;
      finals = filter (λ f. is_final_in (slice_get t.fields f)) fields;
      run = if c.runnable then run else None;
      above = c.above;
      first_method = c.first_method;
      method_count = length c.method_names;
    }

    pub class_on : (k d : ℕ) (c : ClassData) → slice_get t.classes k ≡ Some c → above_in_table t k ≡ Some d
        → class_over t c (method_number t k (codes "run")) (field_numbers t d) ≡ class_part t k c
    class_on k d c at above =
        ap (part_with c (method_number t k (codes "run"))) (sym (fields_on k d above ∙ ap (λ o. field_numbers t d ++ own_field_numbers o) at))

    pub class_top : (k : ℕ) (c : ClassData) → slice_get t.classes k ≡ Some c → above_in_table t k ≡ None
        → class_over t c (method_number t k (codes "run")) [] ≡ class_part t k c
    class_top k c at none = ap (part_with c (method_number t k (codes "run"))) (sym (fields_top k none ∙ ap own_field_numbers at))
