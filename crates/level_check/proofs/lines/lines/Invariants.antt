use Rattle.std.proofs.Common.{length}
use Rattle.classes.specs.Views.{table_data}
use Rattle.level_check.specs.Kept.{HasRead}
use Rattle.level_check.proofs.lines.lines.Given as goal

abbrev pub invariant-lines : goal.invariant-lines
invariant-lines l = HasRead (table_data l.table) l.bytes l.rest l.levels.items

abbrev pub decreases-lines : goal.decreases-lines
decreases-lines l = length l.rest
