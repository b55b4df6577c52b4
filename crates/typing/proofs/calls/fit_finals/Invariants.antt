use Rattle.std.proofs.Common.{◌≡◌, drop}
use Rattle.classes.specs.Views.{table_data}
use Rattle.typing.specs.Rules.{fit_each, types_of_finals}
use Rattle.typing.specs.Views.{types_of}
use Rattle.typing.proofs.calls.fit_finals.Given as goal

abbrev pub invariant-loop-field : goal.invariant-loop-field
invariant-loop-field l =
    fit_each (table_data l.table) (types_of l.rest) (types_of_finals (drop l.field-index l.fields))
    ≡ fit_each (table_data l.table) (types_of l.args) (types_of_finals l.fields)
