use Rattle.reduction.proofs.Moving.{right_mover, left_mover}
use Rattle.reduction.proofs.neighbour_laws.mover_laws.Goals as goal

pub returns-clause-right : goal.returns-clause-right
returns-clause-right c = λ P typed q sound t m first is. right_mover P typed q sound t m first is

pub returns-clause-left : goal.returns-clause-left
returns-clause-left c = λ P typed q sound u n is. left_mover P typed q sound u n is
