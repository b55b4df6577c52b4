-- The exits of `serialise`, and what is written.
use Rattle.std.proofs.Common.{◌≡◌, ◌≤◌, ◌++◌, Some, length, refl, ap, sym, subst, ◌∙◌}
use Rattle.std.proofs.lemmas.Result.{err_from_is_err_and}
use Rattle.core_program.specs.Views.{program_of}
use Rattle.schedule.proofs.UniqueLemmas.{short_schedule}
use Rattle.schedule.specs.Comments.{commented}
use Rattle.schedule.specs.Written.{written}
use Rattle.sources.specs.Verdicts.{NoAccepted}
use Rattle.classes.specs.Views.{table_data}
use Rattle.machine.specs.Standing.{StandsFor}
use Rattle.state.specs.States.{State}
use Rattle.report.specs.States.{state_text}
use Rattle.semantics.specs.Run.{run}
use Rattle.schedule_commands.specs.Schedules.{NoSchedule, NoOrder}
use Rattle.serialise.specs.Rewritten.{IsRewritten}
use Rattle.schedule_commands.specs.Serialise.{SerialiseAnswer}
use Rattle.sources.proofs.Told.{more_refused}
use Rattle.schedule_commands.proofs.ScheduleRows.{not_accepted_order, unread_order, refused_order, serialised_text}
use Rattle.schedule_commands.proofs.serialising.serialised.Goals as goal

pub returns-in_err-judge : goal.returns-in_err-judge
returns-in_err-judge c = λ file is.
    let p = err_from_is_err_and c.from_residual.result c.from_residual.ensures.1 in
    more_refused (NoAccepted file) (SerialiseAnswer file c.args.text.now) _ c.from_residual.result p.0 c.in_err-judge.field-0.0 p.1 p.2
    (not_accepted_order file c.args.text.now) (c.in_err-judge.ensures file is)

pub returns-in_err-schedule : goal.returns-in_err-schedule
returns-in_err-schedule c = λ file is.
    let p = err_from_is_err_and c.from_residual-in_err-schedule.result c.from_residual-in_err-schedule.ensures.1 in
    more_refused (NoSchedule c.args.text.now) (SerialiseAnswer file c.args.text.now) _ c.from_residual-in_err-schedule.result p.0 c.in_err-schedule.field-0.0 p.1 p.2
    (unread_order file c.args.text.now c.args.source.now is (c.in_ok-judge.ensures file is)) c.in_err-schedule.ensures

pub order_of-requires-clause-short : goal.order_of-requires-clause-short
order_of-requires-clause-short c = subst (λ s. length s ≤ 200000) (sym c.as_slice.ensures.value) (short_schedule c.args.text.now c.in_ok-schedule.schedule.items c.in_ok-schedule.ensures)

pub order_of-requires-clause-accepted : goal.order_of-requires-clause-accepted
order_of-requires-clause-accepted c = c.in_ok-judge.ensures c.requires.source.0 c.requires.source.1

pub returns-in_err-found : goal.returns-in_err-found
returns-in_err-found c = λ file is.
    let p = err_from_is_err_and c.from_residual-in_err-found.result c.from_residual-in_err-found.ensures.1 in
    let P = program_of c.args.source.now.program in
    more_refused (NoOrder P c.as_slice.result.now) (SerialiseAnswer file c.args.text.now) _ c.from_residual-in_err-found.result p.0 c.in_err-found.field-0.0 p.1 p.2
    (λ ended line told. refused_order file c.args.text.now c.args.source.now c.in_ok-schedule.schedule.items is (c.in_ok-judge.ensures file is) c.in_ok-schedule.ensures ended line
    (subst (λ s. NoOrder P s ended line) c.as_slice.ensures.value told)) c.in_err-found.ensures.order

pub returns : goal.returns
returns c = λ file is.
    let source = c.args.source.now in
    let P = program_of source.program in
    let found = c.in_ok-found.ensures in
    let order = c.in_ok-found.found.order.items in
    let rewritten = subst (λ s. IsRewritten P s order) c.as_slice.ensures.value found.order in
    let stands = subst (λ s. (q : State) → run P s ≡ Some q → StandsFor c.in_ok-found.found.machine q) c.as_slice.ensures.value found.stands rewritten.end rewritten.ran in
    serialised_text file c.args.text.now source c.in_ok-schedule.schedule.items order (state_text P (table_data source.table) rewritten.end) c.in_ok-out.out.items
    is (c.in_ok-judge.ensures file is) c.in_ok-schedule.ensures (rewritten.end, rewritten.ran, refl)
    rewritten (short_schedule c.args.text.now c.in_ok-schedule.schedule.items c.in_ok-schedule.ensures)
    (c.in_ok-out.ensures.text rewritten.end stands ∙ ap (λ p. written order ++ commented (state_text p (table_data source.table) rewritten.end)) (ap program_of found.program))
    c.in_ok-out.ensures.spells
