-- Refusals and answers of `replay`.
use Rattle.std.proofs.Common.{◌≡◌, ◌≤◌, ℕ, List, Some, false, Result, Ok, Err, MatchResult, Vec, Global, length, ap, sym, subst, ◌∙◌, arith}
use Rattle.std.proofs.lemmas.Option.{same_Some}
use Rattle.classes.specs.Views.{table_data}
use Rattle.core_program.specs.Core.{Program}
use Rattle.core_program.specs.Views.{program_of}
use Rattle.replay.specs.Records.{Told, HasNoDeep}
use Rattle.reduction.specs.SerialSchedules.{IsSerial}
use Rattle.reduction.proofs.WrittenOrder.{nobody_inside}
use Rattle.rules.specs.Rules.{IsAccepted}
use Rattle.schedule.specs.Text.{IsSchedule}
use Rattle.schedule_commands.specs.Schedules.{NoSchedule, NoOrder}
use Rattle.schedule_commands.proofs.Counts.{as_long}
use Rattle.schedule_commands.proofs.ScheduleEndings.{refused_text, order_ends}
use Rattle.schedule_commands.proofs.ScheduleRows.{the_input, not_accepted_order, no_source_order, unread_order, refused_order}
use Rattle.serialise.specs.Rewritten.{IsRewritten}
use Rattle.sources.specs.declared.checking.Source.{Source}
use Rattle.sources.specs.declared.refusal.Ending.{Ending}
use Rattle.sources.specs.declared.refusal.Ending.TheVariants as ending
use Rattle.sources.specs.declared.refusal.Refusal.{Refusal}
use Rattle.sources.specs.Refusals.{IsRight}
use Rattle.sources.specs.Checking.{NoSource, IsSourceOf}
use Rattle.sources.specs.Facts.{RefusedAs}
use Rattle.sources.specs.Verdicts.{NoAccepted}
use Rattle.sources.proofs.Apart.{no_source_ends, no_accepted_is}
use Rattle.sources.proofs.Told.{right_of_more}
use Rattle.state.specs.States.{State}
use Rattle.semantics.specs.Run.{run, inside, open_thread}
use Rattle.semantics.specs.Units.{written_order}
use Rattle.schedule_commands.specs.Evaluated.{AreEvaluated}
use Rattle.schedule_commands.specs.Lines.{calls_text}
use Rattle.schedule_commands.specs.Replay.{NoReplay, ReplayAnswer, not_serialised, no_replay, replayed}

-- the order is as long as the schedule, and ends with nobody inside
pub short_order : (P : Program) (s order : List ℕ) → IsRewritten P s order → length s ≤ 200000 → length order ≤ 200000
short_order P s order does few = let long = as_long s order does.serial.rearranges in omega (arith, long, few)

pub nobody_left : (P : Program) (s order : List ℕ) → IsRewritten P s order → (q : State) → run P order ≡ Some q → (t : ℕ) → inside P q t ≡ false
nobody_left P s order does q ran t =
    let same : q ≡ does.end = same_Some q does.end (sym ran ∙ does.serial.runs) in
    nobody_inside P q (ap (open_thread P) same ∙ does.closed) t

-- the refusals in the order of work
pub no_source_calls : (file text : List ℕ) (ended : Ending) (line : List ℕ) → NoSource file ended line → ReplayAnswer file text ended line
no_source_calls file text ended line told = not_serialised (λ e. let f : ending.Refused ≡ ending.Done = sym (no_source_ends file ended line told) ∙ e in cc) (no_source_order file text ended line told)

pub not_accepted_calls : (file text : List ℕ) (ended : Ending) (line : List ℕ) → NoAccepted file ended line → ReplayAnswer file text ended line
not_accepted_calls file text ended line told = not_serialised (λ e. subst (RefusedAs file) e (no_accepted_is file ended line told)) (not_accepted_order file text ended line told)

pub unread_calls : (file text : List ℕ) (source : Source) → IsSourceOf file source → IsAccepted (program_of source.program) → (ended : Ending) (line : List ℕ) → NoSchedule text ended line → ReplayAnswer file text ended line
unread_calls file text source is accepted ended line told =
    not_serialised (λ e. let f : ending.NoSchedule ≡ ending.Done = sym (refused_text text ended line told).0 ∙ e in cc) (unread_order file text source is accepted ended line told)

pub refused_calls : (file text : List ℕ) (source : Source) (s : List ℕ) → IsSourceOf file source → IsAccepted (program_of source.program) → IsSchedule text s
    → (ended : Ending) (line : List ℕ) → NoOrder (program_of source.program) s ended line → ReplayAnswer file text ended line
refused_calls file text source s is accepted schedule ended line told =
    not_serialised (order_ends (program_of source.program) s ended line told) (refused_order file text source s is accepted schedule ended line told)

-- the order of a schedule is the written one
serial : (P : Program) (s order : List ℕ) (does : IsRewritten P s order) → IsSerial P s (written_order P s) does.end
serial P s order does = subst (λ o. IsSerial P s o does.end) does.written does.serial

pub deep_calls : (file text : List ℕ) (source : Source) (s order : List ℕ) → IsSourceOf file source → IsAccepted (program_of source.program) → IsSchedule text s → IsRewritten (program_of source.program) s order
    → (ended : Ending) (line : List ℕ) → NoReplay (program_of source.program) order ended line → ReplayAnswer file text ended line
deep_calls file text source s order is accepted schedule does ended line told =
    let P = program_of source.program in
    no_replay is.0 P s does.end (the_input file text source s is schedule) accepted does.ran does.closed (serial P s order does) (subst (λ o. NoReplay P o ended line) does.written told)

pub replayed_calls : (file text : List ℕ) (source : Source) (s order out : List ℕ) → IsSourceOf file source → IsAccepted (program_of source.program) → IsSchedule text s → IsRewritten (program_of source.program) s order
    → (calls : List Told) × AreEvaluated (program_of source.program) order calls × HasNoDeep (program_of source.program) order × (out ≡ calls_text (table_data source.table) calls) → ReplayAnswer file text ending.Done out
replayed_calls file text source s order out is accepted schedule does did =
    let P = program_of source.program in
    replayed is.0 P s does.end (the_input file text source s is schedule) accepted does.ran does.closed (record {
      serial = serial P s order does;
      calls = did.0;
      evaluated = subst (λ o. AreEvaluated P o did.0) does.written did.1;
      few = subst (λ o. HasNoDeep P o) does.written did.2;
      says = did.3 ∙ ap (λ t. calls_text t did.0) is.1.table;
    })

-- what is said of the order's calls is said of the schedule
pub replayed_or_refused : (file text : List ℕ) (source : Source) (s order : List ℕ) (r : Result (Vec ℕ Global) Refusal) → IsSourceOf file source → IsAccepted (program_of source.program) → IsSchedule text s → IsRewritten (program_of source.program) s order
    → MatchResult r (λ out. (calls : List Told) × AreEvaluated (program_of source.program) order calls × HasNoDeep (program_of source.program) order × (out.items ≡ calls_text (table_data source.table) calls))
    (IsRight (NoReplay (program_of source.program) order)) → MatchResult r (λ out. ReplayAnswer file text ending.Done out.items) (IsRight (ReplayAnswer file text))
replayed_or_refused file text source s order (Ok out) is accepted schedule does did = replayed_calls file text source s order out.items is accepted schedule does did
replayed_or_refused file text source s order (Err refusal) is accepted schedule does told =
    right_of_more (NoReplay (program_of source.program) order) (ReplayAnswer file text) (deep_calls file text source s order is accepted schedule does) refusal told
