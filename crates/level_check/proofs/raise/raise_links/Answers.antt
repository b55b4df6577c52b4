-- Links that have got what they ask raise nothing.
use Rattle.std.proofs.Common.{sym, ◌∙◌}
use Rattle.level_check.proofs.Settled.{met_stays}
use Rattle.level_check.proofs.raise.raise_links.Goals as goal

pub returns-then-are_met-clause-levels : goal.returns-then-are_met-clause-levels
returns-then-are_met-clause-levels c = met_stays c.args.levels.now c.args.cell c.args.links.now c.level_at.result c.in-Some.from c.level_at.ensures c.in-Some.is (sym c.are_met.ensures ∙ c.if-are_met.true)
