-- A text has one book, and then no fault.
use Rattle.std.proofs.Common.{[]}
use Rattle.books.specs.Memory.{book_of}
use Rattle.books.proofs.BookLaws.{complete_book}
use Rattle.books.proofs.CursorLaws.{no_fault, one_book}
use Rattle.books.proofs.reader.read_book.Goals as goal

pub returns-in-Ok-clause-only_book : goal.returns-in-Ok-clause-only_book
returns-in-Ok-clause-only_book c = λ book is.
    one_book c.args.bytes.now (book_of c.in-Ok.book) book (complete_book c.args.bytes.now (book_of c.in-Ok.book) c.in-Ok.ensures) is

pub returns-in-Ok-clause-only_fault : goal.returns-in-Ok-clause-only_fault
returns-in-Ok-clause-only_fault c = λ fault e.
    no_fault c.args.bytes.now (book_of c.in-Ok.book) [] fault (complete_book c.args.bytes.now (book_of c.in-Ok.book) c.in-Ok.ensures) e
