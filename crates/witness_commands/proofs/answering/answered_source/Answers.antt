-- The exits, and what is told.
use Rattle.std.proofs.Common.{◌≤◌, length, sym, subst}
use Rattle.std.proofs.lemmas.Result.{err_from_is_err_and}
use Rattle.core_program.specs.Views.{program_of}
use Rattle.schedule.proofs.UniqueLemmas.{short_schedule}
use Rattle.schedule_commands.specs.Schedules.{NoSchedule, NoOrder}
use Rattle.sources.proofs.Told.{more_refused}
use Rattle.witness.specs.Verdicts.{IsVerdict}
use Rattle.witness_commands.specs.Answers.{RefusesInput, most_states}
use Rattle.witness_commands.proofs.Stages.{no_schedule_refuses, no_end_refuses, told_answer}
use Rattle.witness_commands.proofs.answering.answered_source.Goals as goal

pub returns-in_err-schedule : goal.returns-in_err-schedule
returns-in_err-schedule c = λ file is.
    let p = err_from_is_err_and c.from_residual.result c.from_residual.ensures.1 in
    more_refused (NoSchedule c.args.text.now) (RefusesInput file c.args.text.now) _ c.from_residual.result p.0 c.in_err-schedule.field-0.0 p.1 p.2
    (no_schedule_refuses file c.args.text.now c.args.source.now is) c.in_err-schedule.ensures

pub verdict_on-requires-clause-short : goal.verdict_on-requires-clause-short
verdict_on-requires-clause-short c = subst (λ s. length s ≤ 200000) (sym c.as_slice.ensures.value) (short_schedule c.args.text.now c.in_ok-schedule.schedule.items c.in_ok-schedule.ensures)

pub returns-in_err-verdict : goal.returns-in_err-verdict
returns-in_err-verdict c = λ file is.
    let p = err_from_is_err_and c.from_residual-in_err-verdict.result c.from_residual-in_err-verdict.ensures.1 in
    let P = program_of c.args.source.now.program in
    more_refused (NoOrder P c.as_slice.result.now) (RefusesInput file c.args.text.now) _ c.from_residual-in_err-verdict.result p.0 c.in_err-verdict.field-0.0 p.1 p.2
    (λ ended line told. no_end_refuses file c.args.text.now c.args.source.now c.in_ok-schedule.schedule.items is c.in_ok-schedule.ensures ended line
    (subst (λ s. NoOrder P s ended line) c.as_slice.ensures.value told)) c.in_err-verdict.ensures

pub returns : goal.returns
returns c = λ file is.
    let verdict = c.in_ok-verdict.verdict in
    let said = c.in_ok-answer_of.field-0 in
    told_answer file c.args.text.now c.args.source.now c.in_ok-schedule.schedule.items verdict said.status said.text.items c.witness_laws.ensures.compared is c.in_ok-schedule.ensures
    (subst (λ s. IsVerdict (program_of c.args.source.now.program) most_states s verdict) c.as_slice.ensures.value c.in_ok-verdict.ensures) c.in_ok-answer_of.ensures
