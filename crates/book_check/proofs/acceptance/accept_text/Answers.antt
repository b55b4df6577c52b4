-- A program with a good book is accepted.
use Rattle.core_program.specs.Views.{program_of}
use Rattle.rules.specs.Near.{rel_of}
use Rattle.book_check.proofs.Admissible.{book_accepts, book_admissible}
use Rattle.book_check.proofs.TextVerdict.{ok_no_fault, ok_no_wrong, err_fault, err_wrong, err_good}
use Rattle.book_check.proofs.acceptance.accept_text.Goals as goal

pub invariant_of-result : goal.invariant_of-result
invariant_of-result c =
    let judged = c.in-Ok.ensures.judged in
    record {
      typed = c.requires.typed;
      relevant = c.requires.relevant;
      few = c.few.ensures;
      accepted = book_accepts (program_of c.args.program) c.args.sets judged.0 c.requires.relevant c.few.ensures judged.2;
    }

pub returns-in-Ok-clause-admissible : goal.returns-in-Ok-clause-admissible
returns-in-Ok-clause-admissible c =
    let judged = c.in-Ok.ensures.judged in
    record { book = judged.0; text = judged.1; admissible = book_admissible (program_of c.args.program) (rel_of c.args.sets) judged.0 judged.2 }

pub returns-in-Ok-clause-only_fault : goal.returns-in-Ok-clause-only_fault
returns-in-Ok-clause-only_fault c = λ fault e. ok_no_fault (program_of c.args.program) (rel_of c.args.sets) c.args.bytes.now (tt {0}) fault c.in-Ok.ensures.judged e

pub returns-in-Ok-clause-only_wrong : goal.returns-in-Ok-clause-only_wrong
returns-in-Ok-clause-only_wrong c = λ book fault is some bad. ok_no_wrong (program_of c.args.program) (rel_of c.args.sets) c.args.bytes.now (tt {0}) book fault c.in-Ok.ensures.judged is some bad

pub returns-in-Err-clause-only_fault : goal.returns-in-Err-clause-only_fault
returns-in-Err-clause-only_fault c = λ fault e. err_fault (program_of c.args.program) (rel_of c.args.sets) c.args.bytes.now c.in-Err.why fault c.in-Err.ensures.judged e

pub returns-in-Err-clause-only_wrong : goal.returns-in-Err-clause-only_wrong
returns-in-Err-clause-only_wrong c = λ book fault is some bad. err_wrong (program_of c.args.program) (rel_of c.args.sets) c.args.bytes.now c.in-Err.why book fault c.in-Err.ensures.judged is some bad

pub returns-in-Err-clause-only_good : goal.returns-in-Err-clause-only_good
returns-in-Err-clause-only_good c = λ book is good. err_good (program_of c.args.program) (rel_of c.args.sets) c.args.bytes.now c.in-Err.why book c.in-Err.ensures.judged is good
