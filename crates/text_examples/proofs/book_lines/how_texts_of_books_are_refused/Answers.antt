use Rattle.std.proofs.Common.{refl}
use Rattle.std.specs.Fmt.{digits}
use Rattle.text_examples.proofs.book_lines.how_texts_of_books_are_refused.Goals as goal

pub returns : goal.returns
unfolding digits
returns c = record { faults = refl }
