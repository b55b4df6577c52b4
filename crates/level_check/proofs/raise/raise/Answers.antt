-- A level that is lower is written, and another one stays.
use Rattle.std.proofs.Common.{sym, ◌∙◌}
use Rattle.level_check.proofs.Raising.{raised_set, raised_kept}
use Rattle.level_check.proofs.raise.raise.Goals as goal

pub returns-then-not-has_level : goal.returns-then-not-has_level
returns-then-not-has_level c = sym (raised_set c.args.levels.now c.args.cell c.args.level (sym c.has_level.ensures ∙ c.if-not-has_level.true))

pub returns-else-not-has_level : goal.returns-else-not-has_level
returns-else-not-has_level c = raised_kept c.args.levels.now c.args.cell c.args.level (sym c.has_level.ensures ∙ c.if-not-has_level.false)
