-- The bytes are the text of one book, or they have their first fault.
use Rattle.std.proofs.Common.{Some, sym, ap, subst, ◌∙◌}
use Rattle.books.specs.Views.{IsCursorAt}
use Rattle.books.proofs.CursorLaws.{opened, one_book, no_fault, has_fault, no_book, same_fault}
use Rattle.books.proofs.cursor.BookCursor.open.Goals as goal

pub returns-in-Ok-clause-book : goal.returns-in-Ok-clause-book
returns-in-Ok-clause-book c =
    let o = opened c.args.bytes.now c.in-Ok.parts.trees c.in-Ok.parts.table.now c.in-Ok.parts.lines.now _ c.in-Ok.ensures in
    (o.book, o.text, record { trees = o.trees; table = o.table_is; lines = o.lines_are; book_is = o.text.book_is })

pub returns-in-Ok-clause-only_book : goal.returns-in-Ok-clause-only_book
returns-in-Ok-clause-only_book c = λ book is.
    let o = opened c.args.bytes.now c.in-Ok.parts.trees c.in-Ok.parts.table.now c.in-Ok.parts.lines.now _ c.in-Ok.ensures in
    subst (λ b. IsCursorAt (record { trees = c.in-Ok.parts.trees; table = c.in-Ok.parts.table; all_lines = c.in-Ok.parts.lines; lines = c.in-Ok.parts.lines }) b)
    (one_book c.args.bytes.now o.book book o.read is)
    (record { trees = o.trees; table = o.table_is; lines = o.lines_are; book_is = o.text.book_is })

pub returns-in-Ok-clause-only_fault : goal.returns-in-Ok-clause-only_fault
returns-in-Ok-clause-only_fault c = λ fault e.
    let o = opened c.args.bytes.now c.in-Ok.parts.trees c.in-Ok.parts.table.now c.in-Ok.parts.lines.now _ c.in-Ok.ensures in
    no_fault c.args.bytes.now o.book _ fault o.read e

pub returns-in-Err-clause-fault : goal.returns-in-Err-clause-fault
returns-in-Err-clause-fault c = has_fault c.args.bytes.now c.in-Err.stop.kind c.in-Err.stop.rest.now c.in-Err.ensures ∙ ap Some (sym c.fault_in.ensures)

pub returns-in-Err-clause-only_book : goal.returns-in-Err-clause-only_book
returns-in-Err-clause-only_book c = λ book is. no_book c.args.bytes.now c.in-Err.stop.kind c.in-Err.stop.rest.now book c.in-Err.ensures is

pub returns-in-Err-clause-only_fault : goal.returns-in-Err-clause-only_fault
returns-in-Err-clause-only_fault c = λ fault e.
    same_fault c.fault_in.result fault c.args.bytes.now (has_fault c.args.bytes.now c.in-Err.stop.kind c.in-Err.stop.rest.now c.in-Err.ensures ∙ ap Some (sym c.fault_in.ensures)) e
