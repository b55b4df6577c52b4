-- One name more, and all.
use Rattle.std.proofs.Common.{map, arith}
use Rattle.std.proofs.lemmas.List.{length-map}
use Rattle.std.proofs.lemmas.Option.{slice_get_within}
use Rattle.classes.specs.Views.{method_data}
use Rattle.typing.proofs.NameSets.{has_one_more}
use Rattle.typing.proofs.numbers.names_of.Goals as goal

pub loop-method-init : goal.loop-method-init
loop-method-init c i m below at = absurd (omega (arith, below))

pub loop-method-preserved : goal.loop-method-preserved
loop-method-preserved c =
    has_one_more method_data c.args.methods.now c.loop-method.names c.add.new.self c.loop-method.method-index c.method-item.result c.loop-method-test.true c.method-item.is
    c.in_ok-add.ensures.names c.loop-method.invariant

pub returns : goal.returns
returns c i m at =
    let low = slice_get_within (map method_data c.args.methods.now) i m at in
    let long = length-map c.args.methods.now method_data in
    c.loop-method.invariant i m (omega (arith, low, long, c.loop-method-test.false)) at
