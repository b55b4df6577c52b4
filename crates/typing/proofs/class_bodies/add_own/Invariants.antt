use Rattle.std.proofs.Common.{◌≡◌, ◌++◌, ◌-◌, length}
use Rattle.std.specs.List.{range_with_len}
use Rattle.classes.specs.Views.{class_data}
use Rattle.typing.proofs.class_bodies.add_own.Given as goal

abbrev pub invariant-loop : goal.invariant-loop
invariant-loop l =
    l.fields.items ++ range_with_len l.next (length (class_data l.class).field_names - l.counter)
    ≡ l.fn.fields.items ++ range_with_len (class_data l.class).first_field (length (class_data l.class).field_names)
