use Rattle.reduction.proofs.Theorem.{held}
use Rattle.reduction.proofs.held_laws.guards_held.Goals as goal

pub returns : goal.returns
returns c = held
