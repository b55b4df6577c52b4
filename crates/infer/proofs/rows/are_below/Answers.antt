use Rattle.std.proofs.Common.{sym, ◌∙◌, ap, get_or}
use Rattle.algebra.specs.declared.basic.Basic.TheVariants.{Const}
use Rattle.infer.specs.Cells.{below_some}
use Rattle.infer.proofs.RowLemmas.{below_fails, below_more}
use Rattle.infer.proofs.rows.are_below.Goals as goal

pub returns-then-not-is_below : goal.returns-then-not-is_below
returns-then-not-is_below c =
    below_fails c.args.row.now c.args.table.now c.loop-place.place Const c.loop-place-test.true
    (sym c.if-not-is_below.true ∙ c.is_below.ensures ∙ ap (below_some (get_or c.args.row.now c.loop-place.place Const)) c.basic_at.ensures) c.loop-place.invariant

pub loop-place-preserved : goal.loop-place-preserved
loop-place-preserved c =
    below_more c.args.row.now c.args.table.now c.loop-place.place Const c.loop-place-test.true
    (sym c.if-not-is_below.false ∙ c.is_below.ensures ∙ ap (below_some (get_or c.args.row.now c.loop-place.place Const)) c.basic_at.ensures) c.loop-place.invariant
