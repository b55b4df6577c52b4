use Rattle.core_program.specs.Examples.{divides_by_zero}
use Rattle.semantics.proofs.PlainRuns.{run_is}
use Rattle.std.specs.Prelude.{replicate}
use Rattle.semantics.proofs.examples.a_zero_divisor_faults.Goals as goal

pub returns-clause-four : goal.returns-clause-four
returns-clause-four c = run_is divides_by_zero (replicate 4 0)
