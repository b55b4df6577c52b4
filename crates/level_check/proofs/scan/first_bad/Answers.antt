-- One cell more was scanned; and all were.
use Rattle.std.proofs.Common.{None, sym}
use Rattle.level_check.specs.Bodies.{told_from}
use Rattle.level_check.specs.Bad.{firsts, all_bads}
use Rattle.level_check.proofs.FirstLemmas.{all_next, all_done}
use Rattle.level_check.proofs.scan.first_bad.Goals as goal

pub loop-at-preserved : goal.loop-at-preserved
loop-at-preserved c =
    all_next (told_from c.args.judged.now) c.args.cells.now.keys c.args.levels.now c.loop-at.at c.in-Some.cell.now c.loop-at.first c.note_cell.new.first (firsts None (all_bads (told_from c.args.judged.now) c.args.cells.now.keys c.args.levels.now))
    (sym c.in-Some.ensures.key) c.loop-at-test.true c.in_ok-note_cell.ensures c.loop-at.invariant

pub returns : goal.returns
returns c =
    all_done (told_from c.args.judged.now) c.args.cells.now.keys c.args.levels.now c.loop-at.at c.loop-at.first (firsts None (all_bads (told_from c.args.judged.now) c.args.cells.now.keys c.args.levels.now))
    c.loop-at-test.false c.loop-at.invariant
