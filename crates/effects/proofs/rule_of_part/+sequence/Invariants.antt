use Rattle.std.proofs.Common.{length}
use Rattle.effects.proofs.rule_of_part.+sequence.Given as goal

abbrev pub decreases-sequence : goal.decreases-sequence
decreases-sequence G l = length l.values.now
