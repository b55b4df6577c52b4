-- One place more.
use Rattle.std.proofs.Common.{◌<◌, length, get_or, slice_set, ap, ◌∙◌, arith}
use Rattle.std.proofs.lemmas.List.{get_or_default}
use Rattle.std.proofs.lemmas.List.Edits.{map_over_more}
use Rattle.algebra.specs.declared.basic.Basic.{Basic}
use Rattle.algebra.specs.declared.basic.Basic.TheVariants.{Const}
use Rattle.algebra.specs.Basics.{join_of}
use Rattle.refutation.proofs.groups.join_all.Goals as goal

pub loop-basic-preserved : goal.loop-basic-preserved
loop-basic-preserved c =
    let f = λ (b : Basic). join_of b c.args.found in
    let table = c.loop-basic.table in
    let at = c.loop-basic.basic-index in
    let old = get_or table at Const in
    let below : at < length table = omega (arith, c.loop-basic-test.true, c.loop-basic.auto.table) in
    ap (slice_set table at) c.join.ensures ∙ map_over_more f c.args.table.now table at old c.loop-basic-test.true c.loop-basic.invariant (get_or_default table at Const old below)
