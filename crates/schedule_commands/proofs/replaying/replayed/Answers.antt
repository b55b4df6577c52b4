-- The exits of `replay`, and what is written.
use Rattle.std.proofs.Common.{◌≡◌, ◌≤◌, ℕ, List, Some, false, MatchResult, length, sym, subst}
use Rattle.std.proofs.lemmas.Result.{err_from_is_err_and}
use Rattle.classes.specs.Views.{table_data}
use Rattle.core_program.specs.Views.{program_of}
use Rattle.replay.specs.Records.{Told, HasNoDeep}
use Rattle.schedule.proofs.UniqueLemmas.{short_schedule}
use Rattle.schedule_commands.specs.Schedules.{NoSchedule, NoOrder}
use Rattle.serialise.specs.Rewritten.{IsRewritten}
use Rattle.sources.specs.Refusals.{IsRight}
use Rattle.sources.specs.Verdicts.{NoAccepted}
use Rattle.sources.proofs.Told.{more_refused}
use Rattle.state.specs.States.{State}
use Rattle.semantics.specs.Run.{run, inside, IsUninterrupted}
use Rattle.schedule_commands.specs.Evaluated.{AreEvaluated}
use Rattle.schedule_commands.specs.Lines.{calls_text}
use Rattle.schedule_commands.specs.Replay.{NoReplay, ReplayAnswer}
use Rattle.schedule_commands.proofs.ReplayRows.{short_order, nobody_left, not_accepted_calls, unread_calls, refused_calls, replayed_or_refused}
use Rattle.schedule_commands.proofs.replaying.replayed.Goals as goal

pub returns-in_err-judge : goal.returns-in_err-judge
returns-in_err-judge c = λ file is.
    let p = err_from_is_err_and c.from_residual.result c.from_residual.ensures.1 in
    more_refused (NoAccepted file) (ReplayAnswer file c.args.text.now) _ c.from_residual.result p.0 c.in_err-judge.field-0.0 p.1 p.2
    (not_accepted_calls file c.args.text.now) (c.in_err-judge.ensures file is)

pub returns-in_err-schedule : goal.returns-in_err-schedule
returns-in_err-schedule c = λ file is.
    let p = err_from_is_err_and c.from_residual-in_err-schedule.result c.from_residual-in_err-schedule.ensures.1 in
    more_refused (NoSchedule c.args.text.now) (ReplayAnswer file c.args.text.now) _ c.from_residual-in_err-schedule.result p.0 c.in_err-schedule.field-0.0 p.1 p.2
    (unread_calls file c.args.text.now c.args.source.now is (c.in_ok-judge.ensures file is)) c.in_err-schedule.ensures

pub order_of-requires-clause-short : goal.order_of-requires-clause-short
order_of-requires-clause-short c = subst (λ s. length s ≤ 200000) (sym c.as_slice.ensures.value) (short_schedule c.args.text.now c.in_ok-schedule.schedule.items c.in_ok-schedule.ensures)

pub order_of-requires-clause-accepted : goal.order_of-requires-clause-accepted
order_of-requires-clause-accepted c = c.in_ok-judge.ensures c.requires.source.0 c.requires.source.1

pub returns-in_err-found : goal.returns-in_err-found
returns-in_err-found c = λ file is.
    let p = err_from_is_err_and c.from_residual-in_err-found.result c.from_residual-in_err-found.ensures.1 in
    let P = program_of c.args.source.now.program in
    more_refused (NoOrder P c.as_slice.result.now) (ReplayAnswer file c.args.text.now) _ c.from_residual-in_err-found.result p.0 c.in_err-found.field-0.0 p.1 p.2
    (λ ended line told. refused_calls file c.args.text.now c.args.source.now c.in_ok-schedule.schedule.items is (c.in_ok-judge.ensures file is) c.in_ok-schedule.ensures ended line
    (subst (λ s. NoOrder P s ended line) c.as_slice.ensures.value told)) c.in_err-found.ensures.order

pub replayed_text-requires-clause-size : goal.replayed_text-requires-clause-size
replayed_text-requires-clause-size c =
    let P = program_of c.args.source.now.program in
    let s = c.in_ok-schedule.schedule.items in
    let order = c.in_ok-found.found.order.items in
    let rewritten = subst (λ r. IsRewritten P r order) c.as_slice.ensures.value c.in_ok-found.ensures.order in
    subst (λ o. length o ≤ 200000) (sym c.as_slice-2.ensures.value) (short_order P s order rewritten (short_schedule c.args.text.now s c.in_ok-schedule.ensures))

pub replayed_text-requires-clause-alone : goal.replayed_text-requires-clause-alone
replayed_text-requires-clause-alone c =
    let P = program_of c.args.source.now.program in
    let order = c.in_ok-found.found.order.items in
    let rewritten = subst (λ r. IsRewritten P r order) c.as_slice.ensures.value c.in_ok-found.ensures.order in
    subst (IsUninterrupted P) (sym c.as_slice-2.ensures.value) rewritten.serial.uninterrupted

pub replayed_text-requires-clause-whole : goal.replayed_text-requires-clause-whole
replayed_text-requires-clause-whole c =
    let P = program_of c.args.source.now.program in
    let s = c.in_ok-schedule.schedule.items in
    let order = c.in_ok-found.found.order.items in
    let rewritten = subst (λ r. IsRewritten P r order) c.as_slice.ensures.value c.in_ok-found.ensures.order in
    subst (λ o. (q : State) → run P o ≡ Some q → (t : ℕ) → inside P q t ≡ false) (sym c.as_slice-2.ensures.value) (nobody_left P s order rewritten)

pub returns : goal.returns
returns c = λ file is.
    let source = c.args.source.now in
    let P = program_of source.program in
    let s = c.in_ok-schedule.schedule.items in
    let order = c.in_ok-found.found.order.items in
    let rewritten = subst (λ r. IsRewritten P r order) c.as_slice.ensures.value c.in_ok-found.ensures.order in
    replayed_or_refused file c.args.text.now source s order c.replayed_text.result is (c.in_ok-judge.ensures file is) c.in_ok-schedule.ensures rewritten
    (subst (λ o. MatchResult c.replayed_text.result (λ out. (calls : List Told) × AreEvaluated P o calls × HasNoDeep P o × (out.items ≡ calls_text (table_data source.table) calls)) (IsRight (NoReplay P o)))
    c.as_slice-2.ensures.value c.replayed_text.ensures)
