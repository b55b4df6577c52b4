use Rattle.conditions.proofs.SameValues.{unique}
use Rattle.conditions.proofs.tree.same_values_law.Goals as goal

pub returns : goal.returns
returns c = record { same_tree = unique }
