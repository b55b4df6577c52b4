-- What a core program keeps of the classes of a table and of its methods' names.
use Rattle.std.specs.Prelude.{◌≡◌, ℕ, ◌+◌, List, [], ◌∷◌, Option, Some, None, filter, length, map, option_map, position, bytes_eq, slice_get, codes, if◌then◌else◌}
use Rattle.core_program.specs.Pairs.{KeptClass}
use Rattle.classes.specs.Table.{TableData, ClassData, MethodData, method_number}
use Rattle.typing.specs.Classes.{is_final_in, field_numbers}

-- a number for each method's name: its place in some list
abbrev pub AreNumbered : List MethodData → List ℕ → Type 0
AreNumbered methods numbers = (names : List (List ℕ)) × (map (λ n. Some n) numbers ≡ map (λ m. position (bytes_eq m.name) names) methods)

module _ (t : TableData) where
  -- what is kept of the class with number k
  abbrev pub class_part : ℕ → ClassData → KeptClass
  class_part k c = record {
    fields = field_numbers t k;
    finals = filter (λ f. is_final_in (slice_get t.fields f)) (field_numbers t k);
    run = if c.runnable then method_number t k (codes "run") else None;
    above = c.above;
    first_method = c.first_method;
    method_count = length c.method_names;
  }

  -- what is kept of the class with number k, if there is one
  abbrev pub part_of_number : ℕ → Option KeptClass
  part_of_number k = option_map (class_part k) (slice_get t.classes k)

  -- what is kept of the classes, the first of which has the number k
  abbrev pub all_parts : ℕ → List ClassData → List KeptClass
  all_parts k [] = []
  all_parts k (c ∷ cs) = class_part k c ∷ all_parts (k + 1) cs
