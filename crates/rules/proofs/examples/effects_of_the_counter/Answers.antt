use Rattle.core_program.specs.Examples.{this_path}
use Rattle.rules.specs.Examples.{cell_path}
use Rattle.rules.proofs.EffectExamples.{inc_at, run_at}
use Rattle.rules.proofs.examples.effects_of_the_counter.Goals as goal

pub returns-clause-inc : goal.returns-clause-inc
returns-clause-inc c H = inc_at (H this_path)

pub returns-clause-run : goal.returns-clause-run
returns-clause-run c H = run_at (H cell_path)
