use Rattle.std.proofs.Common.{◌≡◌, drop, map}
use Rattle.classes.specs.Views.{table_data}
use Rattle.typing.specs.Rules.{fit_each}
use Rattle.typing.specs.Views.{types_of}
use Rattle.typing.proofs.calls.fit_params.Given as goal

abbrev pub invariant-loop-param : goal.invariant-loop-param
invariant-loop-param l =
    fit_each (table_data l.table) (types_of l.rest) (map (λ p. p.ty) (drop l.param-index l.params))
    ≡ fit_each (table_data l.table) (types_of l.args) (map (λ p. p.ty) l.params)
