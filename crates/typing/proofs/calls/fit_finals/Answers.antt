use Rattle.std.proofs.Common.{refl}
use Rattle.classes.specs.Views.{table_data}
use Rattle.typing.specs.Rules.{fit_each, types_of_finals}
use Rattle.typing.specs.Views.{types_of}
use Rattle.typing.proofs.Fitting.{fit_end}
use Rattle.typing.proofs.calls.fit_finals.Goals as goal

pub returns : goal.returns
returns c =
    fit_end (table_data c.args.table.now) types_of_finals refl c.loop-field.rest.now c.args.fields.now c.loop-field.field-index
    (fit_each (table_data c.args.table.now) (types_of c.args.args.now) (types_of_finals c.args.fields.now)) c.is_empty.result
    c.loop-field-test.false c.loop-field.invariant c.is_empty.ensures
