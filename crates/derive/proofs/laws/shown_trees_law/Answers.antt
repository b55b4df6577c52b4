-- Trees that show the least closed assignment keep its rules.
use Rattle.derive.proofs.Shown.{keeps_rules}
use Rattle.derive.proofs.laws.shown_trees_law.Goals as goal

pub returns : goal.returns
returns c = keeps_rules
