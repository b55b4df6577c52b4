use Rattle.books.proofs.BeforeFaults.{before}
use Rattle.books.proofs.laws.front_laws.Goals as goal

pub returns : goal.returns
returns c = record { before = before }
