-- What was judged of the lent lists holds of the book.
use Rattle.std.proofs.Common.{◌≡◌, ◌<◌, subst, sym, IfErr}
use Rattle.core_program.specs.Views.{program_of}
use Rattle.book_lists.proofs.ListLaws.{lent_book, lent_kept, lent_trees}
use Rattle.rules.specs.Near.{loc_of, rel_of}
use Rattle.book_check.specs.NearBooks.{IsNearBook}
use Rattle.book_check.specs.BookWork.{book_work, most_book_work}
use Rattle.book_check.specs.declared.wrong.Wrong.TheVariants as wrong
use Rattle.book_check.specs.Passes.{IsBookVerdict}
use Rattle.book_check.proofs.acceptance.judged_listed.Goals as goal

pub judged_book-requires-clause-kept : goal.judged_book-requires-clause-kept
judged_book-requires-clause-kept c = lent_kept c.args.lists.now c.requires.listed.0 c.as_slice.result.now c.as_slice-2.result.now c.requires.listed.1 c.as_slice.ensures.value c.as_slice-2.ensures.value

pub judged_book-requires-clause-trees : goal.judged_book-requires-clause-trees
judged_book-requires-clause-trees c = lent_trees c.args.lists.now c.requires.listed.0 c.as_slice-3.result.now c.requires.listed.1 c.as_slice-3.ensures.value

pub returns-clause-verdict : goal.returns-clause-verdict
returns-clause-verdict c = λ book is.
    let whole = lent_book c.args.lists.now book c.as_slice-3.result.now c.as_slice.result.now c.as_slice-2.result.now is c.as_slice-3.ensures.value c.as_slice.ensures.value c.as_slice-2.ensures.value in
    subst (λ b. IsBookVerdict (program_of c.args.program.now) (rel_of c.args.sets.now) b c.judged_book.result) whole c.judged_book.ensures.verdict

pub returns-clause-near : goal.returns-clause-near
returns-clause-near c = λ book is near.
    let whole = lent_book c.args.lists.now book c.as_slice-3.result.now c.as_slice.result.now c.as_slice-2.result.now is c.as_slice-3.ensures.value c.as_slice.ensures.value c.as_slice-2.ensures.value in
    c.judged_book.ensures.near (subst (IsNearBook (rel_of c.args.sets.now) (loc_of c.args.sets.now)) (sym whole) near)

pub returns-clause-work : goal.returns-clause-work
returns-clause-work c = λ book is.
    let whole = lent_book c.args.lists.now book c.as_slice-3.result.now c.as_slice.result.now c.as_slice-2.result.now is c.as_slice-3.ensures.value c.as_slice.ensures.value c.as_slice-2.ensures.value in
    subst (λ b. IfErr c.judged_book.result (λ why. why ≡ wrong.Work → most_book_work < book_work (program_of c.args.program.now) b)) whole c.judged_book.ensures.work
