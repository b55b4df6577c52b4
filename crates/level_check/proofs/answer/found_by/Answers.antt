-- The first of the cells' bad ones, at their greatest levels, tells.
use Rattle.core_program.specs.Views.{program_of}
use Rattle.rules.specs.Near.{rel_of}
use Rattle.levels.specs.Walks.{level_in}
use Rattle.level_check.specs.Told.{origin_in}
use Rattle.level_check.specs.Cells.{queue_of}
use Rattle.level_check.proofs.Answering.{answered_by}
use Rattle.level_check.proofs.Through.{led_runs}
use Rattle.level_check.proofs.answer.found_by.Goals as goal

pub returns : goal.returns
returns c =
    let j = c.args.judged.now in
    answered_by (program_of j.program.now) (rel_of j.sets.now) (level_in j.levels.now) j.over.now (origin_in j.origins.now.entries) c.requires.over c.requires.origins (led_runs j.program.now c.requires.typed j.over.now c.requires.over) (queue_of c.in_ok-cells.cells) c.in_ok-cells.ensures (queue_of c.follow_all.new.cells) c.in_ok-rows.rows.items c.in_ok-rows.ensures
    c.in_ok-levels.levels.items c.in_ok-levels.ensures c.as_slice.result.now c.as_slice.ensures.value c.first_bad.result c.first_bad.ensures
