-- The text of method lines begins with the next one.
use Rattle.std.proofs.Common.{sym, refl}
use Rattle.books.proofs.CursorLaws.{next_line_fault, next_line_some}
use Rattle.books.proofs.cursor.BookCursor.next_method.Goals as goal

pub returns-in-Ok : goal.returns-in-Ok
returns-in-Ok c = λ book at.
    let old = c.args.self.now in
    next_line_some book book.lines old (record { trees = old.trees; table = old.table; all_lines = old.all_lines; lines = c.in-Ok.rest }) c.in-Ok.view at
    (sym c.if-not-begins.ensures) c.in-Ok.ensures refl refl refl

pub returns-in-Err : goal.returns-in-Err
returns-in-Err c = λ book at. next_line_fault book book.lines c.args.self.now _ at (sym c.if-not-begins.ensures) c.in-Err.ensures
