-- A class as it is made from the class above it, which is made before.
use Rattle.std.specs.Prelude.{ℕ, List, ◌++◌, Option, None, filter, length, slice_get, if◌then◌else◌}
use Rattle.std.specs.List.{range_with_len}
use Rattle.core_program.specs.Pairs.{KeptClass}
use Rattle.classes.specs.Table.{TableData, ClassData}
use Rattle.typing.specs.Classes.{is_final_in}

-- the class's own fields behind those of the class above
abbrev pub fields_over : ClassData → List ℕ → List ℕ
fields_over c above = above ++ range_with_len c.first_field (length c.field_names)

-- a class, where these are the fields of the class that it extends, or none; this is its method `run`, if it has one
abbrev pub class_over : TableData → ClassData → Option ℕ → List ℕ → KeptClass
class_over t c run fields = record {
  fields = fields_over c fields;
  finals = filter (λ f. is_final_in (slice_get t.fields f)) (fields_over c fields);
  run = if c.runnable then run else None;
  above = c.above;
  first_method = c.first_method;
  method_count = length c.method_names;
}
