-- The next method line is the first of the lines.
use Rattle.books.specs.Books.{Book}
use Rattle.books.specs.Views.{lines_in}
use Rattle.books.proofs.TableLaws.{first_line_is, no_line}
use Rattle.books.proofs.lines.BookCursorLines.first_line.Goals as goal

pub returns-in_default-clause-none : goal.returns-in_default-clause-none
returns-in_default-clause-none c =
    let b : Book = record { table = c.requires.kept.table; lines = lines_in c.args.self.lines.now } in
    no_line b b.lines c.next_method.new.self (c.in_default.ensures b c.requires.kept.at)

pub returns-clause-some : goal.returns-clause-some
returns-clause-some c =
    let b : Book = record { table = c.requires.kept.table; lines = lines_in c.args.self.lines.now } in
    (first_line_is b b.lines c.in-Some.line c.premises.result c.next_method.new.self (c.in-Some.ensures b c.requires.kept.at) c.premises.ensures).is

pub returns-clause-premises_kept : goal.returns-clause-premises_kept
returns-clause-premises_kept c =
    let b : Book = record { table = c.requires.kept.table; lines = lines_in c.args.self.lines.now } in
    (first_line_is b b.lines c.in-Some.line c.premises.result c.next_method.new.self (c.in-Some.ensures b c.requires.kept.at) c.premises.ensures).premises_are

pub returns-clause-rest_kept : goal.returns-clause-rest_kept
returns-clause-rest_kept c =
    let b : Book = record { table = c.requires.kept.table; lines = lines_in c.args.self.lines.now } in
    (first_line_is b b.lines c.in-Some.line c.premises.result c.next_method.new.self (c.in-Some.ensures b c.requires.kept.at) c.premises.ensures).new_is
