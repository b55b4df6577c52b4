use Rattle.core_program.specs.Examples.{counter}
use Rattle.core_program.proofs.ExampleProofs.{counter_is_typed}
use Rattle.rules.proofs.AcceptedExample.{counter_accepted}
use Rattle.reduction.proofs.Theorem.{held, words}
use Rattle.reduction.proofs.examples.the_counter_is_safe.Goals as goal

pub returns-clause-bare : goal.returns-clause-bare
returns-clause-bare c = held counter counter_is_typed counter_accepted

pub returns-clause-words : goal.returns-clause-words
returns-clause-words c s n u is call = words counter counter_is_typed counter_accepted s n u is
