-- Table and method lines are the book of the text, and the only one.
use Rattle.std.proofs.Common.{map, subst}
use Rattle.books.specs.Combine.{several}
use Rattle.book_lists.specs.Listed.{line_head, listed_lines, IsListedAs}
use Rattle.books.specs.Reading.{line_at}
use Rattle.book_lists.proofs.ListLaws.{book_listed, only_listed}
use Rattle.book_lists.proofs.list_reader.read_listed.Goals as goal

pub returns-clause-book : goal.returns-clause-book
returns-clause-book c =
    let whole = several 109 (line_at c.in_ok-size.size) c.in_ok-behind.behind.now in
    book_listed c.args.bytes.now c.in_ok-size.size c.in_ok-size.first.now c.in_ok-behind.behind.now c.in_ok-rest.rest.now c.in_ok-rest-2.rest.now c.in_ok-end.field-0.now
    (record { table = c.in_ok-table.table; lines = c.list_lines.new.lines; nodes = c.list_lines.new.nodes }) c.in_ok-size.ensures c.in_ok-behind.ensures c.in_ok-table.ensures
    (subst (λ z. IsListedAs (map line_head) z c.list_lines.new.lines.items whole c.in_ok-rest.rest.now) c.new-lines.ensures.items c.in_ok-rest.ensures.heads)
    (subst (λ z. IsListedAs listed_lines z c.list_lines.new.nodes.items whole c.in_ok-rest.rest.now) c.new-nodes.ensures.items c.in_ok-rest.ensures.nodes)
    c.in_ok-rest-2.ensures c.in_ok-end.ensures

pub returns-clause-only_book : goal.returns-clause-only_book
returns-clause-only_book c = λ book is.
    let whole = several 109 (line_at c.in_ok-size.size) c.in_ok-behind.behind.now in
    let found = book_listed c.args.bytes.now c.in_ok-size.size c.in_ok-size.first.now c.in_ok-behind.behind.now c.in_ok-rest.rest.now c.in_ok-rest-2.rest.now c.in_ok-end.field-0.now
    (record { table = c.in_ok-table.table; lines = c.list_lines.new.lines; nodes = c.list_lines.new.nodes }) c.in_ok-size.ensures c.in_ok-behind.ensures c.in_ok-table.ensures
    (subst (λ z. IsListedAs (map line_head) z c.list_lines.new.lines.items whole c.in_ok-rest.rest.now) c.new-lines.ensures.items c.in_ok-rest.ensures.heads)
    (subst (λ z. IsListedAs listed_lines z c.list_lines.new.nodes.items whole c.in_ok-rest.rest.now) c.new-nodes.ensures.items c.in_ok-rest.ensures.nodes)
    c.in_ok-rest-2.ensures c.in_ok-end.ensures in
    only_listed c.args.bytes.now (record { table = c.in_ok-table.table; lines = c.list_lines.new.lines; nodes = c.list_lines.new.nodes }) found.0 book found.1 found.2 is
