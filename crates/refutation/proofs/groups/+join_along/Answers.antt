-- No step is left, or the next one is one of three.
use Rattle.refutation.proofs.GroupTables.{joined_everywhere}
use Rattle.refutation.proofs.groups.+join_along.Goals as goal

pub returns-in_default : goal.returns-in_default
returns-in_default t c = λ e.
    joined_everywhere c.args.steps.now c.args.rel.now c.args.into.now c.join_all.new.table c.args.from.now c.front.result c.in_default.ensures.cases c.front.ensures c.requires c.join_all.ensures
