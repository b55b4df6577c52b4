use Rattle.std.proofs.Common.{◌≡◌, ◌-◌, Some, length}
use Rattle.base.specs.Ancestors.{reaches}
use Rattle.classes.specs.Table.{above_in_table, is_of_kind}
use Rattle.classes.specs.Views.{table_data}
use Rattle.classes.proofs.entries.ClassTable.is_kind_by_steps.Given as goal

abbrev pub invariant-loop : goal.invariant-loop
invariant-loop l =
    reaches (above_in_table (table_data l.self)) (length l.self.classes.items - l.counter) (Some l.at) l.other ≡ is_of_kind (table_data l.self) l.fn.class l.other
