use Rattle.semantics.proofs.Looks.{turn_same}
use Rattle.semantics.proofs.laws.asking_laws.Goals as goal

pub returns : goal.returns
returns c = record { same = turn_same }
