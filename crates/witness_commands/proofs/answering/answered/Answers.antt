-- The exit of a source that is refused.
use Rattle.std.proofs.lemmas.Result.{err_from_is_err_and}
use Rattle.sources.specs.Checking.{NoSource}
use Rattle.sources.proofs.Told.{more_refused}
use Rattle.witness_commands.specs.Answers.{RefusesInput}
use Rattle.witness_commands.proofs.Stages.{no_source_refuses}
use Rattle.witness_commands.proofs.answering.answered.Goals as goal

pub returns-in_err-source : goal.returns-in_err-source
returns-in_err-source c =
    let p = err_from_is_err_and c.from_residual.result c.from_residual.ensures.1 in
    more_refused (NoSource c.args.file.now) (RefusesInput c.args.file.now c.args.text.now) _ c.from_residual.result p.0 c.in_err-source.field-0.0 p.1 p.2
    (no_source_refuses c.args.file.now c.args.text.now) c.in_err-source.ensures
