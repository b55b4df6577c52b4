use Rattle.core_program.specs.Examples.{returns_locked}
use Rattle.semantics.proofs.PlainRuns.{run_is}
use Rattle.std.specs.Prelude.{replicate}
use Rattle.semantics.proofs.examples.a_return_releases.Goals as goal

pub returns-clause-six : goal.returns-clause-six
returns-clause-six c = run_is returns_locked (replicate 6 0)

pub returns-clause-seven : goal.returns-clause-seven
returns-clause-seven c = run_is returns_locked (replicate 7 0)

pub returns-clause-eight : goal.returns-clause-eight
returns-clause-eight c = run_is returns_locked (replicate 8 0)
