use Rattle.std.proofs.Common.{◌≡◌, ◌+◌, ◌-◌, Some, length}
use Rattle.classes.specs.Lines.{ancestors}
use Rattle.classes.specs.Table.{above_in_table, first_found, own_method, method_number}
use Rattle.classes.specs.Views.{table_data}
use Rattle.classes.proofs.entries.ClassTable.method_by_steps.Given as goal

abbrev pub invariant-loop : goal.invariant-loop
invariant-loop l =
    first_found (own_method (table_data l.self) l.name) (ancestors (above_in_table (table_data l.self)) (length l.self.classes.items + 1 - l.counter) (Some l.at))
    ≡ method_number (table_data l.self) l.fn.class l.name
