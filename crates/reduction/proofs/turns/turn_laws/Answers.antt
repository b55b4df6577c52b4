use Rattle.reduction.proofs.FrameLemmas.{held_counts}
use Rattle.reduction.proofs.ThreadTurn.{turn_fine}
use Rattle.reduction.proofs.turns.turn_laws.Goals as goal

pub returns-clause-counts : goal.returns-clause-counts
returns-clause-counts c = held_counts

pub returns-clause-turn : goal.returns-clause-turn
returns-clause-turn c = turn_fine
