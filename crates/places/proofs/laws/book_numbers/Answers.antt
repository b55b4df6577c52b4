use Rattle.places.proofs.BookNumbers.{same_parts}
use Rattle.places.proofs.laws.book_numbers.Goals as goal

pub returns : goal.returns
returns c = record { parts = same_parts }
