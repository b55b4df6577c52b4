use Rattle.std.proofs.Common.{◌≡◌, ◌+◌, ◌-◌, Some, length}
use Rattle.classes.specs.Views.{table_data}
use Rattle.typing.specs.Rules.{fit_each, final_types}
use Rattle.typing.specs.Views.{types_of}
use Rattle.typing.proofs.Fitting.{finals_along}
use Rattle.typing.proofs.calls.fit_class.Given as goal

abbrev pub invariant-loop : goal.invariant-loop
invariant-loop l =
    fit_each (table_data l.table) (types_of l.rest) (finals_along (table_data l.table) (length (table_data l.table).classes + 1 - l.counter) (Some l.at))
    ≡ fit_each (table_data l.table) (types_of l.args) (final_types (table_data l.table) l.fn.class)
