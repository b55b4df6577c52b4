use Rattle.std.proofs.Common.{refl}
use Rattle.std.specs.Fmt.{digits}
use Rattle.text_examples.proofs.book_texts.how_books_are_written.Goals as goal

pub returns-clause-leaf : goal.returns-clause-leaf
unfolding digits
returns-clause-leaf c = refl

pub returns-clause-node : goal.returns-clause-node
unfolding digits
returns-clause-node c = refl

pub returns-clause-line : goal.returns-clause-line
unfolding digits
returns-clause-line c = refl

pub returns-clause-book : goal.returns-clause-book
unfolding digits
returns-clause-book c = refl

pub returns-clause-two_lines : goal.returns-clause-two_lines
unfolding digits
returns-clause-two_lines c = refl

pub returns-clause-nothing : goal.returns-clause-nothing
unfolding digits
returns-clause-nothing c = refl
