use Rattle.semantics.proofs.Changed.{heap_after, locks_are}
use Rattle.semantics.proofs.laws.change_laws.Goals as goal

pub returns-clause-objects : goal.returns-clause-objects
returns-clause-objects c = heap_after

pub returns-clause-locks : goal.returns-clause-locks
returns-clause-locks c = locks_are
