use Rattle.core_program.specs.Examples.{counter}
use Rattle.semantics.proofs.PlainRuns.{initial_same}
use Rattle.core_examples.proofs.memory.what_the_start_is.Goals as goal

pub returns : goal.returns
returns c = initial_same counter
