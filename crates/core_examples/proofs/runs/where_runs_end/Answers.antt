use Rattle.std.proofs.Common.{refl}
use Rattle.std.specs.Prelude.{replicate}
use Rattle.core_program.specs.Examples.{counter, nested}
use Rattle.state.specs.States.{initial}
use Rattle.semantics.specs.Examples.{nested_after_eleven}
use Rattle.semantics.proofs.PlainRuns.{run_is}
use Rattle.core_examples.proofs.runs.where_runs_end.Goals as goal

pub returns-clause-done : goal.returns-clause-done
returns-clause-done c = run_is nested (replicate 12 0)

pub returns-clause-stops : goal.returns-clause-stops
returns-clause-stops c = record { before = nested_after_eleven; ran = run_is nested (replicate 11 0); thread = 0; entry = refl; no_step = refl; outcome = refl }

pub returns-clause-stops_at_absent : goal.returns-clause-stops_at_absent
returns-clause-stops_at_absent c = record { before = initial counter; ran = refl; thread = 1; entry = refl; no_step = refl; outcome = refl }
