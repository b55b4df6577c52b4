use Rattle.semantics.proofs.RunLemmas.{run_from-append, run_numbered, initial_numbered, step_numbered}
use Rattle.semantics.proofs.laws.run_laws.Goals as goal

pub returns-clause-append : goal.returns-clause-append
returns-clause-append c = run_from-append

pub returns-clause-numbered : goal.returns-clause-numbered
returns-clause-numbered c = run_numbered

pub returns-clause-numbered_initial : goal.returns-clause-numbered_initial
returns-clause-numbered_initial c = initial_numbered

pub returns-clause-numbered_step : goal.returns-clause-numbered_step
returns-clause-numbered_step c = step_numbered
