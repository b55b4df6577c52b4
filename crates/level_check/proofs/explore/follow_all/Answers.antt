-- One cell more was followed.
use Rattle.std.proofs.Common.{sym, subst, ◌∙◌, arith}
use Rattle.level_check.specs.Bodies.{told_from}
use Rattle.level_check.specs.Cells.{queue_of, AreCalledUnder}
use Rattle.level_check.proofs.Adding.{reached_start, reached_more}
use Rattle.level_check.proofs.explore.follow_all.Goals as goal

pub cells-init : goal.cells-init
cells-init c = reached_start (told_from c.args.judged.now) (queue_of c.args.cells.now) c.new-rows.result.items c.new-rows.ensures.items c.requires.size

pub cells-preserved : goal.cells-preserved
cells-preserved c =
    subst (λ rows. AreCalledUnder (told_from c.args.judged.now) (queue_of c.args.cells.now) (queue_of c.follow.new.cells) rows) (sym c.in_ok-push.ensures.items)
    (reached_more (told_from c.args.judged.now) (queue_of c.args.cells.now) (queue_of c.cells.cells) (queue_of c.follow.new.cells) c.cells.rows.items c.in_ok-row.row c.len-in-cells-2.result c.cells.invariant
    (c.len-in-cells-2.ensures ∙ c.cells.rows.ok.0) (omega (arith, c.cells-test.true, c.len.ensures, c.len-in-cells.ensures, c.len-in-cells-2.ensures, c.cells.rows.ok.0, c.cells.cells.levels.ok.0)) c.in_ok-row.ensures)
