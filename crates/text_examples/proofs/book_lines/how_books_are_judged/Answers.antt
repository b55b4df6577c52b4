use Rattle.std.proofs.Common.{refl}
use Rattle.std.specs.Fmt.{digits}
use Rattle.text_examples.proofs.book_lines.how_books_are_judged.Goals as goal

pub returns-clause-node : goal.returns-clause-node
unfolding digits
returns-clause-node c = refl

pub returns-clause-line : goal.returns-clause-line
unfolding digits
returns-clause-line c = refl

pub returns-clause-told : goal.returns-clause-told
unfolding digits
returns-clause-told c = refl
