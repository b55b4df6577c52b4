use Rattle.levels.proofs.TypedRuns.{initial_typed, runs_typed}
use Rattle.levels.proofs.typed_runs.typed_laws.Goals as goal

pub returns-clause-first : goal.returns-clause-first
returns-clause-first c = initial_typed

pub returns-clause-typed : goal.returns-clause-typed
returns-clause-typed c = λ P mark typed marked s q is. runs_typed P mark typed marked s q is
