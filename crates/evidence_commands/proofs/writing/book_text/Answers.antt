-- The exits of `derive`, what deriving asks, and the text of the book.
use Rattle.std.proofs.Common.{map}
use Rattle.std.proofs.lemmas.Result.{err_from_is_err_and}
use Rattle.conditions.specs.Conditions.{cond_of}
use Rattle.core_program.specs.Views.{program_of}
use Rattle.books.specs.Memory.{book_of}
use Rattle.sources.specs.Verdicts.{NoAccepted}
use Rattle.evidence_commands.specs.Derive.{DeriveAnswer}
use Rattle.evidence_commands.proofs.BookRows.{not_accepted_derive, source_keeps, derived_text}
use Rattle.sources.proofs.Told.{more_refused}
use Rattle.evidence_commands.proofs.writing.book_text.Goals as goal

pub returns-in_err-inferred : goal.returns-in_err-inferred
returns-in_err-inferred c = λ file is.
    let p = err_from_is_err_and c.from_residual.result c.from_residual.ensures.1 in
    more_refused (NoAccepted file) (DeriveAnswer file) _ c.from_residual.result p.0 c.in_err-inferred.field-0.0 p.1 p.2
    (not_accepted_derive file) (c.in_err-inferred.ensures file is)

pub derive-requires-clause-count : goal.derive-requires-clause-count
derive-requires-clause-count c = (c.in_ok-inferred.ensures c.requires.0 c.requires.1).shown.count

pub derive-requires-clause-canonical : goal.derive-requires-clause-canonical
derive-requires-clause-canonical c = (c.in_ok-inferred.ensures c.requires.0 c.requires.1).shown.canonical

pub returns : goal.returns
returns c = λ file is.
    let source = c.args.source.now in
    let trees = map cond_of c.in_ok-inferred.inferred.methods.items in
    let least = c.in_ok-inferred.ensures file is in
    derived_text file source trees (book_of c.in_ok-book.book) c.in_ok-text.text.items is least c.in_ok-book.ensures.derived
    (c.in_ok-book.ensures.good (source_keeps (program_of source.program) source.sets trees is.1.typed is.1.relevant least)) c.in_ok-text.ensures
