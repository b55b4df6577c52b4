use Rattle.books.proofs.There.{there}
use Rattle.books.proofs.broken.fault_laws.Goals as goal

pub returns : goal.returns
returns c = record { there = there }
