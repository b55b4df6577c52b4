use Rattle.core_program.proofs.ExampleProofs.{counter_is_typed, nested_is_typed, returns_locked_is_typed, divides_by_zero_is_typed, reads_unlocked_is_typed}
use Rattle.core_program.proofs.examples.examples_are_typed.Goals as goal

pub returns-clause-counter : goal.returns-clause-counter
returns-clause-counter c = counter_is_typed

pub returns-clause-nested : goal.returns-clause-nested
returns-clause-nested c = nested_is_typed

pub returns-clause-returns_locked : goal.returns-clause-returns_locked
returns-clause-returns_locked c = returns_locked_is_typed

pub returns-clause-divides_by_zero : goal.returns-clause-divides_by_zero
returns-clause-divides_by_zero c = divides_by_zero_is_typed

pub returns-clause-reads_unlocked : goal.returns-clause-reads_unlocked
returns-clause-reads_unlocked c = reads_unlocked_is_typed
