use Rattle.std.proofs.Common.{◌∙◌, ap, get_or}
use Rattle.algebra.specs.declared.basic.Basic.TheVariants.{Const}
use Rattle.infer.specs.Cells.{join_some}
use Rattle.infer.proofs.RowLemmas.{joined_more}
use Rattle.infer.proofs.rows.joined.Goals as goal

pub loop-place-preserved : goal.loop-place-preserved
loop-place-preserved c =
    joined_more c.args.row.now c.args.table.now c.loop-place.greater.items c.push.new.self.items c.loop-place.place c.greater_of.result Const c.loop-place-test.true
    (c.greater_of.ensures ∙ ap (join_some (get_or c.args.row.now c.loop-place.place Const)) c.basic_at.ensures) c.in_ok-push.ensures.items c.loop-place.invariant
