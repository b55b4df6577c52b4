-- What was judged of the cursor's lines holds of the book.
use Rattle.std.proofs.Common.{◌≡◌, ◌<◌, ◌∙◌, ap, map, subst, sym, IfErr}
use Rattle.conditions.specs.Conditions.{cond_of}
use Rattle.core_program.specs.Views.{program_of}
use Rattle.books.specs.Views.{lines_in}
use Rattle.books.proofs.TableLaws.{lines_are, at_some}
use Rattle.rules.specs.Near.{loc_of, rel_of}
use Rattle.book_check.specs.NearBooks.{IsNearBook}
use Rattle.book_check.specs.BookWork.{book_work, most_book_work}
use Rattle.book_check.specs.declared.wrong.Wrong.TheVariants as wrong
use Rattle.book_check.specs.Passes.{IsBookVerdict}
use Rattle.book_check.proofs.acceptance.judged_at.Goals as goal

pub judged_book-requires-clause-kept : goal.judged_book-requires-clause-kept
judged_book-requires-clause-kept c = at_some c.args.cursor c.requires.book.0 c.requires.book.1

pub returns-clause-verdict : goal.returns-clause-verdict
returns-clause-verdict c = λ book at.
    let table : map cond_of c.as_slice.result.now ≡ book.table = ap (map cond_of) c.as_slice.ensures.value ∙ c.in-Ok.ensures book at in
    let lines : lines_in c.args.cursor.lines.now ≡ book.lines = lines_are c.args.cursor book at in
    subst (λ b. IsBookVerdict (program_of c.args.program.now) (rel_of c.args.sets.now) b c.judged_book.result) (λ i. record { table = table i; lines = lines i }) c.judged_book.ensures.verdict

pub returns-clause-near : goal.returns-clause-near
returns-clause-near c = λ book at near.
    let table : map cond_of c.as_slice.result.now ≡ book.table = ap (map cond_of) c.as_slice.ensures.value ∙ c.in-Ok.ensures book at in
    let lines : lines_in c.args.cursor.lines.now ≡ book.lines = lines_are c.args.cursor book at in
    let whole : record { table = map cond_of c.as_slice.result.now; lines = lines_in c.args.cursor.lines.now } ≡ book = λ i. record { table = table i; lines = lines i } in
    c.judged_book.ensures.near (subst (IsNearBook (rel_of c.args.sets.now) (loc_of c.args.sets.now)) (sym whole) near)

pub returns-clause-work : goal.returns-clause-work
returns-clause-work c = λ book at.
    let table : map cond_of c.as_slice.result.now ≡ book.table = ap (map cond_of) c.as_slice.ensures.value ∙ c.in-Ok.ensures book at in
    let lines : lines_in c.args.cursor.lines.now ≡ book.lines = lines_are c.args.cursor book at in
    subst (λ b. IfErr c.judged_book.result (λ why. why ≡ wrong.Work → most_book_work < book_work (program_of c.args.program.now) b)) (λ i. record { table = table i; lines = lines i }) c.judged_book.ensures.work
