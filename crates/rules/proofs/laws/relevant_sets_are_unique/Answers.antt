use Rattle.rules.proofs.UniqueSets.{unique_sets}
use Rattle.rules.proofs.laws.relevant_sets_are_unique.Goals as goal

pub returns : goal.returns
returns c = unique_sets
