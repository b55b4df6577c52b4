use Rattle.std.proofs.Common.{◌≡◌}
use Rattle.classes.specs.Table.{is_of_kind}
use Rattle.classes.specs.Views.{table_data}
use Rattle.classes.proofs.entries.ClassTable.is_kind_by_jumps.Given as goal

abbrev pub invariant-loop : goal.invariant-loop
invariant-loop l = is_of_kind (table_data l.self) l.at l.other ≡ is_of_kind (table_data l.self) l.fn.class l.other
