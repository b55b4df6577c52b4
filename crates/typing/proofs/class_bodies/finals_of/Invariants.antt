use Rattle.std.proofs.Common.{◌≡◌, ◌++◌, drop, filter, slice_get}
use Rattle.classes.specs.Views.{table_data}
use Rattle.typing.specs.Classes.{is_final_in}
use Rattle.typing.proofs.class_bodies.finals_of.Given as goal

abbrev pub invariant-loop-field : goal.invariant-loop-field
invariant-loop-field l =
    l.finals.items ++ filter (λ f. is_final_in (slice_get (table_data l.table).fields f)) (drop l.field-index l.fields)
    ≡ filter (λ f. is_final_in (slice_get (table_data l.table).fields f)) l.fields
