use Rattle.reduction.proofs.Theorem.{starts_safe, stays_safe}
use Rattle.reduction.proofs.held_laws.safe_states.Goals as goal

pub returns-clause-initial : goal.returns-clause-initial
returns-clause-initial c = starts_safe

pub returns-clause-step : goal.returns-clause-step
returns-clause-step c = stays_safe
