-- Refusals and answers of `serialise-open`.
use Rattle.std.proofs.Common.{◌≡◌, ◌≤◌, ◌++◌, List, ℕ, Some, length, ap, sym, subst, ◌∙◌, arith}
use Rattle.classes.specs.Table.{table_of}
use Rattle.classes.specs.Views.{table_data}
use Rattle.core_program.specs.Views.{program_of}
use Rattle.serialise.specs.OpenOrder.{open_order}
use Rattle.serialise.specs.Opened.{IsOpened}
use Rattle.serialise.specs.Whole.{IsGathered}
use Rattle.rules.specs.Rules.{IsAccepted}
use Rattle.schedule.specs.Comments.{commented}
use Rattle.schedule.specs.Text.{IsSchedule}
use Rattle.schedule.specs.Written.{written}
use Rattle.sources.specs.declared.checking.Source.{Source}
use Rattle.sources.specs.declared.refusal.Ending.{Ending}
use Rattle.sources.specs.declared.refusal.Ending.TheVariants as ending
use Rattle.sources.specs.Checking.{NoSource, IsSourceOf}
use Rattle.sources.specs.Verdicts.{NoAccepted, no_source as no_source_accepted}
use Rattle.sources.proofs.Verdicts.{well_formed_source}
use Rattle.state.specs.States.{State}
use Rattle.report.specs.States.{state_text}
use Rattle.semantics.specs.Run.{run}
use Rattle.schedule_commands.proofs.Counts.{as_long}
use Rattle.schedule_commands.proofs.ScheduleRows.{the_input, same_state}
use Rattle.schedule_commands.specs.Schedules.{NoSchedule, NoRun}
use Rattle.schedule_commands.specs.SerialiseOpen.{SerialiseOpenAnswer, not_accepted, no_schedule, no_run, in_order}

pub not_accepted_open : (file text : List ℕ) (ended : Ending) (line : List ℕ) → NoAccepted file ended line → SerialiseOpenAnswer file text ended line
not_accepted_open file text ended line told = not_accepted told

pub no_source_open : (file text : List ℕ) (ended : Ending) (line : List ℕ) → NoSource file ended line → SerialiseOpenAnswer file text ended line
no_source_open file text ended line told = not_accepted (no_source_accepted told)

pub unread_open : (file text : List ℕ) (source : Source) → IsSourceOf file source → IsAccepted (program_of source.program) → (ended : Ending) (line : List ℕ) → NoSchedule text ended line → SerialiseOpenAnswer file text ended line
unread_open file text source is accepted ended line told = no_schedule is.0 (program_of source.program) (well_formed_source file is.0 source is.1) accepted told

pub refused_open : (file text : List ℕ) (source : Source) (s : List ℕ) → IsSourceOf file source → IsAccepted (program_of source.program) → IsSchedule text s
    → (ended : Ending) (line : List ℕ) → NoRun (program_of source.program) s ended line → SerialiseOpenAnswer file text ended line
refused_open file text source s is accepted schedule ended line told = no_run is.0 (program_of source.program) s (the_input file text source s is schedule) accepted told

pub opened_text : (file text : List ℕ) (source : Source) (s order said out : List ℕ) → IsSourceOf file source → IsAccepted (program_of source.program) → IsSchedule text s
    → (q : State) × (run (program_of source.program) s ≡ Some q) × (said ≡ state_text (program_of source.program) (table_data source.table) q)
    → IsOpened (program_of source.program) s order → length s ≤ 200000 → out ≡ written order ++ commented said → (length order ≤ 200000 → IsSchedule out order) → SerialiseOpenAnswer file text ending.Done out
opened_text file text source s order said out is accepted schedule did does few e spells =
    let P = program_of source.program in
    let same = same_state P s did.0 does.end did.1 does.ran in
    let long = as_long s order does.gathered.rearranges in
    let short : length order ≤ 200000 = omega (arith, long, few) in
    let says = did.2 ∙ ap (λ t. state_text P t did.0) is.1.table ∙ ap (state_text P (table_of is.0)) same in
    in_order is.0 P s does.end (the_input file text source s is schedule) accepted does.ran (record {
      says = e ∙ ap (λ o. written o ++ commented said) does.ordered ∙ ap (λ t. written (open_order P s) ++ commented t) says;
      spells = subst (IsSchedule out) does.ordered (spells short);
      gathered = subst (λ o. IsGathered P s o does.end) does.ordered does.gathered;
      closed = λ nobody. sym does.ordered ∙ does.closed nobody;
    })
