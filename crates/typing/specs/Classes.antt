-- The core classes of a program, from its class table: fields, the method that a class runs, and which method runs for which.
use Rattle.std.specs.Prelude.{ℕ, ◌+◌, Bool, false, List, [], ◌∷◌, Option, Some, None, flat_map, filter, length, reverse, option_map, unwrap_or, slice_get, codes, if◌then◌else◌}
use Rattle.std.specs.List.{range_with_len}
use Rattle.core_program.specs.Core.{Class}
use Rattle.classes.specs.Lines.{ancestors}
use Rattle.classes.specs.Seen.{FieldData}
use Rattle.classes.specs.Table.{TableData, ClassData, MethodData, method_number, above_in_table, class_and_ancestors, is_of_kind}

-- the numbers of a class's own fields, if it is there
abbrev pub own_field_numbers : Option ClassData → List ℕ
own_field_numbers None = []
own_field_numbers (Some c) = range_with_len c.first_field (length c.field_names)

-- whether there is a field, and it is final
abbrev pub is_final_in : Option FieldData → Bool
is_final_in None = false
is_final_in (Some f) = f.is_final

module _ (t : TableData) where
  -- the fields of these classes, the last one's first
  abbrev pub fields_of_each : List ℕ → List ℕ
  fields_of_each ks = flat_map (λ k. own_field_numbers (slice_get t.classes k)) (reverse ks)

  -- the fields of the class with number k: the furthest ancestor's first, its own last
  abbrev pub field_numbers : ℕ → List ℕ
  field_numbers k = fields_of_each (class_and_ancestors t k)

  -- the ancestors of the class with number k, the nearest first
  abbrev pub ancestors_in : ℕ → List ℕ
  ancestors_in k = ancestors (above_in_table t) (length t.classes) (above_in_table t k)

  -- how many fields it has from above
  abbrev pub inherited_count : ℕ → ℕ
  inherited_count k = length (fields_of_each (ancestors_in k))

  -- the method that runs for a method and the class with number k: the one of its name in the class, or else in the nearest ancestor that has one
  abbrev pub runner : ℕ → ℕ → MethodData → ℕ
  runner k n m = unwrap_or (method_number t k m.name) n

  -- each of these methods that the class with number k has, its own or from above, with the one that runs for it; the first of them has the number n
  abbrev pub targets_from : ℕ → ℕ → List MethodData → List (ℕ × ℕ)
  targets_from k n [] = []
  targets_from k n (m ∷ ms) =
      if is_of_kind t k m.class then (n, runner k n m) ∷ targets_from k (n + 1) ms else targets_from k (n + 1) ms

  -- the core class with number k. A class that counts as `implements Runnable` has its method `run`
  abbrev pub class_core : ℕ → ClassData → Class
  class_core k c = record {
    fields = field_numbers k;
    finals = filter (λ f. is_final_in (slice_get t.fields f)) (field_numbers k);
    run = if c.runnable then method_number t k (codes "run") else None;
    above = c.above;
    targets = targets_from k 0 t.methods;
  }

  -- the core class with number k, if there is one
  abbrev pub class_of_number : ℕ → Option Class
  class_of_number k = option_map (class_core k) (slice_get t.classes k)

  -- the core classes, the first of which has the number k
  abbrev pub all_classes : ℕ → List ClassData → List Class
  all_classes k [] = []
  all_classes k (c ∷ cs) = class_core k c ∷ all_classes (k + 1) cs
