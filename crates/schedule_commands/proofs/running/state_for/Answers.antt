-- The exits of `run`, and the text of the state.
use Rattle.std.proofs.Common.{◌≡◌, ◌≤◌, Some, length, ap, sym, subst, ◌∙◌}
use Rattle.std.proofs.lemmas.Result.{err_from_is_err_and}
use Rattle.core_program.specs.Views.{program_of}
use Rattle.schedule.proofs.UniqueLemmas.{short_schedule}
use Rattle.semantics.specs.Run.{run}
use Rattle.schedule_commands.specs.Run.{RunAnswer}
use Rattle.schedule_commands.specs.Schedules.{NoSchedule, NoRun}
use Rattle.sources.proofs.Told.{more_refused}
use Rattle.schedule_commands.proofs.ScheduleRows.{no_schedule_run, stopped_run, ran_text}
use Rattle.schedule_commands.proofs.running.state_for.Goals as goal

pub returns-in_err-schedule : goal.returns-in_err-schedule
returns-in_err-schedule c = λ file is.
    let p = err_from_is_err_and c.from_residual.result c.from_residual.ensures.1 in
    more_refused (NoSchedule c.args.text.now) (RunAnswer file c.args.text.now) _ c.from_residual.result p.0 c.in_err-schedule.field-0.0 p.1 p.2
    (no_schedule_run file c.args.text.now c.args.source.now is) c.in_err-schedule.ensures

pub state_after-requires-clause-short : goal.state_after-requires-clause-short
state_after-requires-clause-short c = subst (λ s. length s ≤ 200000) (sym c.as_slice.ensures.value) (short_schedule c.args.text.now c.in_ok-schedule.schedule.items c.in_ok-schedule.ensures)

pub returns-in_err-state : goal.returns-in_err-state
returns-in_err-state c = λ file is.
    let p = err_from_is_err_and c.from_residual-in_err-state.result c.from_residual-in_err-state.ensures.1 in
    let P = program_of c.args.source.now.program in
    more_refused (NoRun P c.as_slice.result.now) (RunAnswer file c.args.text.now) _ c.from_residual-in_err-state.result p.0 c.in_err-state.field-0.0 p.1 p.2
    (λ ended line told. stopped_run file c.args.text.now c.args.source.now c.in_ok-schedule.schedule.items is c.in_ok-schedule.ensures ended line
    (subst (λ s. NoRun P s ended line) c.as_slice.ensures.value told))
    c.in_err-state.ensures

pub returns : goal.returns
returns c = λ file is.
    let h = c.in_ok-state.ensures in
    let source = c.args.source.now in
    ran_text file c.args.text.now source c.in_ok-schedule.schedule.items c.into_bytes.result.items is c.in_ok-schedule.ensures
    (h.0, subst (λ s. run (program_of source.program) s ≡ Some h.0) c.as_slice.ensures.value h.1, ap (λ v. v.items) c.into_bytes.ensures.value ∙ h.2)
