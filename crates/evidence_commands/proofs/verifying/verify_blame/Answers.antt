-- A source that is refused.
use Rattle.std.proofs.lemmas.Result.{err_from_is_err_and}
use Rattle.sources.specs.Checking.{NoSource}
use Rattle.sources.proofs.Told.{more_refused}
use Rattle.evidence_commands.specs.Verifying.{VerifyBlameAnswer, no_source}
use Rattle.evidence_commands.proofs.verifying.verify_blame.Goals as goal

pub returns-in_err-source : goal.returns-in_err-source
returns-in_err-source c =
    let p = err_from_is_err_and c.from_residual.result c.from_residual.ensures.1 in
    more_refused (NoSource c.args.file.now) (VerifyBlameAnswer c.args.file.now c.args.bytes.now) _ c.from_residual.result p.0 c.in_err-source.field-0.0 p.1 p.2
    (λ ended line told. no_source told) c.in_err-source.ensures
