-- A program with a good book is accepted.
use Rattle.core_program.specs.Views.{program_of}
use Rattle.books.specs.Memory.{book_of}
use Rattle.rules.specs.Near.{rel_of}
use Rattle.book_check.proofs.Admissible.{book_accepts, book_admissible}
use Rattle.book_check.proofs.TextVerdict.{taken_no_wrong, refused_wrong, refused_good}
use Rattle.book_check.proofs.acceptance.accept.Goals as goal

pub invariant_of-result : goal.invariant_of-result
invariant_of-result c = record {
  typed = c.requires.typed;
  relevant = c.requires.relevant;
  few = c.few.ensures;
  accepted = book_accepts (program_of c.args.program) c.args.sets (book_of c.args.book.now) c.requires.relevant c.few.ensures c.in-Ok.ensures.verdict;
}

pub returns-in-Ok-clause-admissible : goal.returns-in-Ok-clause-admissible
returns-in-Ok-clause-admissible c = book_admissible (program_of c.args.program) (rel_of c.args.sets) (book_of c.args.book.now) c.in-Ok.ensures.verdict

pub returns-in-Ok-clause-only_wrong : goal.returns-in-Ok-clause-only_wrong
returns-in-Ok-clause-only_wrong c = λ fault some bad. taken_no_wrong (program_of c.args.program) (rel_of c.args.sets) (book_of c.args.book.now) fault c.in-Ok.ensures.verdict some bad

pub returns-in-Err-clause-only_wrong : goal.returns-in-Err-clause-only_wrong
returns-in-Err-clause-only_wrong c = λ fault some bad. refused_wrong (program_of c.args.program) (rel_of c.args.sets) (book_of c.args.book.now) c.in-Err.why fault c.in-Err.ensures.verdict some bad

pub returns-in-Err-clause-only_good : goal.returns-in-Err-clause-only_good
returns-in-Err-clause-only_good c = λ good. refused_good (program_of c.args.program) (rel_of c.args.sets) (book_of c.args.book.now) c.in-Err.why c.in-Err.ensures.verdict good
