use Rattle.std.proofs.Common.{map, refl}
use Rattle.classes.specs.Views.{table_data}
use Rattle.typing.specs.Rules.{fit_each}
use Rattle.typing.specs.Views.{types_of}
use Rattle.typing.proofs.Fitting.{fit_end}
use Rattle.typing.proofs.calls.fit_params.Goals as goal

pub returns : goal.returns
returns c =
    fit_end (table_data c.args.table.now) (λ ps. map (λ p. p.ty) ps) refl c.loop-param.rest.now c.args.params.now c.loop-param.param-index
    (fit_each (table_data c.args.table.now) (types_of c.args.args.now) (map (λ p. p.ty) c.args.params.now)) c.is_empty.result
    c.loop-param-test.false c.loop-param.invariant c.is_empty.ensures
