-- The exits of `verify`.
use Rattle.std.proofs.lemmas.Result.{err_from_is_err_and}
use Rattle.sources.specs.Checking.{NoSource}
use Rattle.evidence_commands.specs.Verify.{VerifyAnswer, no_source}
use Rattle.evidence_commands.proofs.BookRows.{verified_result, book_refusal}
use Rattle.sources.proofs.Told.{more_refused}
use Rattle.evidence_commands.proofs.judging.verify_book.Goals as goal

pub returns-in_err-source : goal.returns-in_err-source
returns-in_err-source c =
    let p = err_from_is_err_and c.from_residual.result c.from_residual.ensures.1 in
    more_refused (NoSource c.args.file.now) (VerifyAnswer c.args.file.now c.args.bytes.now) _ c.from_residual.result p.0 c.in_err-source.field-0.0 p.1 p.2
    (λ ended line told. no_source told) c.in_err-source.ensures

pub returns-in-Ok : goal.returns-in-Ok
returns-in-Ok c = verified_result c.args.file.now c.args.bytes.now c.in_ok-source.source c.verified-text.result _ c.in_ok-source.ensures c.in-Ok.ensures.accepted c.in-Ok.ensures.checked c.verified-text.ensures

pub returns-in-Err : goal.returns-in-Err
returns-in-Err c = book_refusal c.args.file.now c.args.bytes.now c.in_ok-source.source c.in-Err.refused.why c.refuse_book.result c.in_ok-source.ensures c.in-Err.ensures.refused c.in-Err.ensures.only_good c.refuse_book.ensures
