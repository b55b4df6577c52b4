-- The lent parts of a book in memory are the book.
use Rattle.std.proofs.Common.{◌≡◌, ◌<◌, ◌∙◌, ap, map, subst, sym, IfErr}
use Rattle.conditions.specs.Conditions.{cond_of}
use Rattle.books.specs.Books.{Book}
use Rattle.books.specs.Memory.{book_of, method_line_of}
use Rattle.rules.specs.Near.{loc_of, rel_of}
use Rattle.book_check.specs.NearBooks.{IsNearBook}
use Rattle.book_check.specs.BookWork.{book_work, most_book_work}
use Rattle.book_check.specs.declared.wrong.Wrong.TheVariants as wrong
use Rattle.core_program.specs.Views.{program_of}
use Rattle.book_check.proofs.acceptance.judged_memory.Goals as goal

pub returns-clause-near : goal.returns-clause-near
returns-clause-near c = λ near.
    let lent : Book = record { table = map cond_of c.as_slice-2.result.now; lines = map method_line_of c.as_slice.result.now } in
    let whole : lent ≡ book_of c.args.book.now = (λ i. record { table = map cond_of (c.as_slice-2.ensures.value i); lines = map method_line_of (c.as_slice.ensures.value i) }) ∙ ap book_of c.book.view_is in
    c.judged_book.ensures.near (subst (IsNearBook (rel_of c.args.sets.now) (loc_of c.args.sets.now)) (sym whole) near)

pub returns-clause-work : goal.returns-clause-work
returns-clause-work c =
    let lent : Book = record { table = map cond_of c.as_slice-2.result.now; lines = map method_line_of c.as_slice.result.now } in
    let whole : lent ≡ book_of c.args.book.now = (λ i. record { table = map cond_of (c.as_slice-2.ensures.value i); lines = map method_line_of (c.as_slice.ensures.value i) }) ∙ ap book_of c.book.view_is in
    subst (λ b. IfErr c.judged_book.result (λ why. why ≡ wrong.Work → most_book_work < book_work (program_of c.args.program.now) b)) whole c.judged_book.ensures.work
