use Rattle.std.proofs.Common.{◌≡◌, drop}
use Rattle.classes.specs.Views.{table_data}
use Rattle.typing.specs.Locks.{path_along}
use Rattle.typing.specs.StmtViews.{reach_data}
use Rattle.typing.proofs.lock.along.Given as goal

abbrev pub invariant-loop-name : goal.invariant-loop-name
invariant-loop-name l =
    (path_along (table_data l.table) l.at (reach_data l.reach) (drop l.name-index l.names)
    ≡ path_along (table_data l.table) l.at (reach_data l.fn.root) l.names)
    × (l.first ≡ l.fn.first)
