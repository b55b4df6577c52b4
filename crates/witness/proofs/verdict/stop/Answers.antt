-- The entry at which the schedule stops.
use Rattle.witness.proofs.verdict.stop.Goals as goal

pub returns : goal.returns
returns c = λ P s before is. record { before = before; stop = is; refused = c.is_want_of_memory.ensures.otherwise c.if-is_want_of_memory.false }
