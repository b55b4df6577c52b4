use Rattle.reduction.proofs.Moving.{exchange}
use Rattle.reduction.proofs.neighbour_laws.exchange_laws.Goals as goal

pub returns : goal.returns
returns c = record { exchange = λ P typed q sound t u other m n first second p fresh. exchange P typed q sound t u other m n first second p fresh }
