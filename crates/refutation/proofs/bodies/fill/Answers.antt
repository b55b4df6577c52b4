-- One place more.
use Rattle.std.proofs.Common.{◌<◌, length, get_or, arith}
use Rattle.std.proofs.lemmas.List.{get_or_default}
use Rattle.std.proofs.lemmas.List.Edits.{map_over_more}
use Rattle.algebra.specs.declared.basic.Basic.{Basic}
use Rattle.algebra.specs.declared.basic.Basic.TheVariants.{Const}
use Rattle.refutation.proofs.bodies.fill.Goals as goal

pub loop-place-preserved : goal.loop-place-preserved
loop-place-preserved c =
    let table = c.loop-place.table in
    let at = c.loop-place.place-index in
    let old = get_or table at Const in
    let below : at < length table = omega (arith, c.loop-place-test.true, c.loop-place.auto.table) in
    map_over_more (λ (b : Basic). c.args.basic) c.args.table.now table at old c.loop-place-test.true c.loop-place.invariant (get_or_default table at Const old below)
