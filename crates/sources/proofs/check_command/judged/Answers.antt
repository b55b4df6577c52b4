use Rattle.std.proofs.Common.{◌≤◌, ◌^◌, length, map, ap, sym, subst, ◌∙◌}
use Rattle.std.proofs.lemmas.Result.{err_from_is_err_and}
use Rattle.classes.specs.Views.{table_data}
use Rattle.conditions.specs.Conditions.{cond_of}
use Rattle.core_program.specs.Views.{program_of}
use Rattle.sources.specs.Check.{report_from}
use Rattle.sources.proofs.SourceRows.{judged_refusal, judged_text, few_trees}
use Rattle.sources.proofs.check_command.judged.Goals as goal

pub returns-in_err-inferred : goal.returns-in_err-inferred
returns-in_err-inferred c = λ file is.
    let p = err_from_is_err_and c.from_residual.result c.from_residual.ensures.1 in
    judged_refusal file _ c.from_residual.result p.0 c.in_err-inferred.field-0.0 p.1 p.2 (c.in_err-inferred.ensures file is)

pub report-requires : goal.report-requires
report-requires c =
    let is = c.requires.1 in
    subst (λ ts. length ts ≤ 2 ^ 32) (sym c.as_slice.ensures.value)
    (few_trees (program_of c.args.source.now.program) c.in_ok-inferred.inferred.methods.items is.1.typed (c.in_ok-inferred.ensures c.requires.0 is))

pub returns : goal.returns
returns c = λ file is.
    let source = c.args.source.now in
    judged_text file source c.in_ok-inferred.inferred.methods.items c.into_bytes.result.items is (c.in_ok-inferred.ensures file is)
    (ap (λ v. v.items) c.into_bytes.ensures.value ∙ c.in_ok-text.ensures ∙ ap (λ ts. report_from (table_data source.table) 0 (map cond_of ts)) c.as_slice.ensures.value)
