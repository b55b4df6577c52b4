use Rattle.std.proofs.Common.{◌≡◌}
use Rattle.classes.specs.Table.{field_number}
use Rattle.classes.specs.Views.{table_data}
use Rattle.classes.proofs.entries.ClassTable.field_by_jumps.Given as goal

abbrev pub invariant-loop : goal.invariant-loop
invariant-loop l = field_number (table_data l.self) l.at l.name ≡ field_number (table_data l.self) l.fn.class l.name
