use Rattle.library.proofs.Neighbours.{there}
use Rattle.library.proofs.laws.neighbour_laws.Goals as goal

pub returns : goal.returns
returns c = record { there = λ P s place runs some. there P s place runs some }
