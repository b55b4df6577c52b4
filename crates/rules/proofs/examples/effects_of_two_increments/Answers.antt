use Rattle.core_program.specs.Examples.{this_path}
use Rattle.rules.proofs.EffectExamples.{twice_at, synchronized_at}
use Rattle.rules.proofs.examples.effects_of_two_increments.Goals as goal

pub returns-clause-twice : goal.returns-clause-twice
returns-clause-twice c H = twice_at (H this_path)

pub returns-clause-synchronized : goal.returns-clause-synchronized
returns-clause-synchronized c H = synchronized_at (H this_path)
