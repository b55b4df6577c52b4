-- One visit more has added its cell and its link.
use Rattle.level_check.specs.Cells.{queue_of}
use Rattle.level_check.proofs.Adding.{added_start, seen_step}
use Rattle.level_check.proofs.explore.add_calls.Goals as goal

pub loop-visit-init : goal.loop-visit-init
loop-visit-init c = added_start c.args.from (queue_of c.args.cells.now) c.new-links.result.items c.new-links.ensures.items c.requires

pub loop-visit-preserved : goal.loop-visit-preserved
loop-visit-preserved c =
    seen_step c.args.seen.now c.loop-visit.visit-index c.visit-item.result c.args.from (queue_of c.args.cells.now) (queue_of c.loop-visit.cells) (queue_of c.add_visit.new.cells) c.loop-visit.links.items c.add_visit.new.links.items
    c.loop-visit-test.true c.visit-item.is c.loop-visit.invariant c.in_ok-add_visit.ensures
