use Rattle.std.proofs.Common.{◌≡◌, ◌++◌, drop}
use Rattle.classes.specs.Views.{table_data}
use Rattle.typing.specs.Scopes.{scope_of_parameters}
use Rattle.typing.proofs.methods.parameters.Given as goal

abbrev pub invariant-loop-place : goal.invariant-loop-place
invariant-loop-place l =
    l.scope.items ++ scope_of_parameters (table_data l.table) l.slot (drop l.place l.params) ≡ scope_of_parameters (table_data l.table) 1 l.params
