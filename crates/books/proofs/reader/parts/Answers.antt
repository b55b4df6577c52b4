-- Table and method lines are the book of the text.
use Rattle.books.proofs.Built.{book_built}
use Rattle.books.proofs.reader.parts.Goals as goal

pub returns : goal.returns
returns c =
    book_built c.args.bytes.now c.in_ok-size.size c.in_ok-size.first.now c.in_ok-behind.behind.now c.in_ok-lines.field-0-1.now c.in_ok-trees.trees.items c.in_ok-lines.lines.items
    c.in_ok-size.ensures c.in_ok-behind.ensures c.in_ok-trees.ensures c.in_ok-lines.ensures
