use Rattle.std.proofs.Common.{◌-◌, Some, length}
use Rattle.classes.specs.Table.{above_in_table}
use Rattle.classes.specs.Views.{table_data}
use Rattle.typing.specs.Order.{Climbs}
use Rattle.typing.proofs.order.climb.Given as goal

abbrev pub invariant-loop-next : goal.invariant-loop-next
invariant-loop-next l = Climbs (above_in_table (table_data l.table)) (Some l.fn.class) l.line.items l.next

abbrev pub decreases-loop-next : goal.decreases-loop-next
decreases-loop-next l = length (table_data l.table).classes - length l.line.items
