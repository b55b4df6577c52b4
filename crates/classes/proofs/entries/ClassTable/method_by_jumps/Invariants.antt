use Rattle.std.proofs.Common.{◌≡◌}
use Rattle.classes.specs.Table.{method_number}
use Rattle.classes.specs.Views.{table_data}
use Rattle.classes.proofs.entries.ClassTable.method_by_jumps.Given as goal

abbrev pub invariant-loop : goal.invariant-loop
invariant-loop l = method_number (table_data l.self) l.at l.name ≡ method_number (table_data l.self) l.fn.class l.name
