use Rattle.std.proofs.Common.{◌≡◌, ◌<◌, ℕ, true, length}
use Rattle.classes.specs.Table.{above_in_table}
use Rattle.classes.specs.Views.{table_data}
use Rattle.typing.specs.Order.{IsAncestorOrder, stands_in}
use Rattle.typing.proofs.order.from_above.Given as goal

abbrev pub invariant-loop-class : goal.invariant-loop-class
invariant-loop-class l =
    IsAncestorOrder (above_in_table (table_data l.table)) (length (table_data l.table).classes) l.marks.items l.order.items
    × ((c : ℕ) → c < l.number → stands_in l.order.items c ≡ true)
    × (l.number ≡ l._class-index)
