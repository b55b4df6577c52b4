use Rattle.core_program.specs.Examples.{nested}
use Rattle.semantics.proofs.PlainRuns.{run_is}
use Rattle.std.specs.Prelude.{replicate}
use Rattle.semantics.proofs.examples.a_lock_is_taken_twice.Goals as goal

pub returns-clause-five : goal.returns-clause-five
returns-clause-five c = run_is nested (replicate 5 0)

pub returns-clause-eleven : goal.returns-clause-eleven
returns-clause-eleven c = run_is nested (replicate 11 0)
