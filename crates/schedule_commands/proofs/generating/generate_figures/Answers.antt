-- The source is small, and the exit where it is refused.
use Rattle.std.proofs.Common.{◌≡◌, ◌∙◌, subst}
use Rattle.std.proofs.lemmas.Result.{err_from_is_err_and}
use Rattle.schedule.specs.Sources.{generated_source}
use Rattle.sources.specs.Checking.{NoSource, IsSourceOf}
use Rattle.sources.specs.Refusals.{IsRight}
use Rattle.sources.proofs.Told.{more_refused}
use Rattle.schedule_commands.specs.Generate.{GenerateAnswer}
use Rattle.schedule_commands.proofs.GenerateRows.{no_source_generated, small_source}
use Rattle.schedule_commands.proofs.generating.generate_figures.Goals as goal

pub read_source-requires : goal.read_source-requires
read_source-requires c = small_source c.args.n c.as_slice.result.now c.requires (c.as_slice.ensures.value ∙ c.in_ok-file.ensures.source)

pub returns-in_err-source : goal.returns-in_err-source
returns-in_err-source c =
    let n = c.args.n in
    let p = err_from_is_err_and c.from_residual-in_err-source.result c.from_residual-in_err-source.ensures.1 in
    let file : c.as_slice.result.now ≡ generated_source n = c.as_slice.ensures.value ∙ c.in_ok-file.ensures.source in
    more_refused (NoSource (generated_source n)) (GenerateAnswer n) _ c.from_residual-in_err-source.result p.0 c.in_err-source.field-0.0 p.1 p.2
    (no_source_generated n c.in_ok-file.schedule.items c.in_ok-file.ensures.schedule) (subst (λ f. IsRight (NoSource f) c.in_err-source.field-0.0) file c.in_err-source.ensures)

pub counted_up-out-requires-clause-source : goal.counted_up-out-requires-clause-source
counted_up-out-requires-clause-source c = subst (λ f. IsSourceOf f c.in_ok-source.source) (c.as_slice.ensures.value ∙ c.in_ok-file.ensures.source) c.in_ok-source.ensures
