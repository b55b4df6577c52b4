use Rattle.state.specs.States.{initial}
use Rattle.std.specs.Prelude.{None}
use Rattle.witness.proofs.WalkLemmas.{walk_runs, walk_uninterrupted, uninterrupted_walks}
use Rattle.witness.proofs.order_laws.walk_laws.Goals as goal

pub returns-clause-runs : goal.returns-clause-runs
returns-clause-runs c P r q walks = walk_runs P r (initial P) None q walks

pub returns-clause-uninterrupted : goal.returns-clause-uninterrupted
returns-clause-uninterrupted c P r q walks = walk_uninterrupted P r q walks

pub returns-clause-walks : goal.returns-clause-walks
returns-clause-walks c P r q runs un = uninterrupted_walks P r q runs un
