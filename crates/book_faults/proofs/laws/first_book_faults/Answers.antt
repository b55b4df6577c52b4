use Rattle.book_faults.proofs.PlaceLaws.{broken, found, only}
use Rattle.book_faults.proofs.laws.first_book_faults.Goals as goal

pub returns : goal.returns
returns c = record { broken = broken; exact = λ bytes kind place. (found bytes kind place, only bytes kind place) }
