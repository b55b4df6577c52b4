-- Refusals and answers of the rows on schedules.
use Rattle.std.proofs.Common.{◌≡◌, ◌≤◌, ◌++◌, List, ℕ, Some, length, ap, sym, subst, ◌∙◌, arith}
use Rattle.classes.specs.Table.{table_of}
use Rattle.classes.specs.Views.{table_data}
use Rattle.core_program.specs.Core.{Program}
use Rattle.core_program.specs.Views.{program_of}
use Rattle.reduction.specs.SerialSchedules.{IsSerial}
use Rattle.rules.specs.Rules.{IsAccepted}
use Rattle.schedule.specs.Comments.{commented}
use Rattle.schedule.specs.Text.{IsSchedule}
use Rattle.schedule.specs.Written.{written}
use Rattle.sources.specs.declared.checking.Source.{Source}
use Rattle.sources.specs.declared.refusal.Ending.{Ending}
use Rattle.sources.specs.declared.refusal.Ending.TheVariants as ending
use Rattle.sources.specs.declared.refusal.Refusal.{Refusal}
use Rattle.sources.specs.Refusals.{IsRight}
use Rattle.sources.specs.Checking.{NoSource, IsSourceOf}
use Rattle.sources.specs.Verdicts.{NoAccepted, no_source as no_source_accepted}
use Rattle.sources.proofs.Told.{right_of_more}
use Rattle.sources.proofs.Verdicts.{well_formed_source}
use Rattle.state.specs.States.{State}
use Rattle.report.specs.States.{state_text}
use Rattle.semantics.specs.Run.{run}
use Rattle.semantics.specs.Units.{written_order}
use Rattle.serialise.specs.Rewritten.{IsRewritten}
use Rattle.schedule_commands.proofs.Counts.{as_long}
use Rattle.schedule_commands.specs.Schedules.{NoSchedule, NoRun, NoOrder, IsInput}
use Rattle.schedule_commands.specs.Run.{RunAnswer, no_source, no_schedule, no_run, ran}
use Rattle.schedule_commands.specs.Serialise.{SerialiseAnswer, not_accepted, no_schedule as no_schedule_order, no_order, serialised}

pub run_source_refused : (file text : List ℕ) (r : Refusal) → IsRight (NoSource file) r → IsRight (RunAnswer file text) r
run_source_refused file text r is = right_of_more (NoSource file) (RunAnswer file text) (λ ended line i. no_source i) r is

-- what a source and a text are
pub the_input : (file text : List ℕ) (source : Source) (s : List ℕ) (is : IsSourceOf file source) → IsSchedule text s → IsInput file text is.0 (program_of source.program) s
the_input file text source s is schedule = record { source = well_formed_source file is.0 source is.1; schedule = schedule }

pub no_schedule_run : (file text : List ℕ) (source : Source) → IsSourceOf file source → (ended : Ending) (line : List ℕ) → NoSchedule text ended line → RunAnswer file text ended line
no_schedule_run file text source is ended line told = no_schedule is.0 (program_of source.program) (well_formed_source file is.0 source is.1) told

pub stopped_run : (file text : List ℕ) (source : Source) (s : List ℕ) → IsSourceOf file source → IsSchedule text s → (ended : Ending) (line : List ℕ) → NoRun (program_of source.program) s ended line → RunAnswer file text ended line
stopped_run file text source s is schedule ended line told = no_run is.0 (program_of source.program) s (the_input file text source s is schedule) told

pub ran_text : (file text : List ℕ) (source : Source) (s : List ℕ) (out : List ℕ) → IsSourceOf file source → IsSchedule text s
    → (q : State) × (run (program_of source.program) s ≡ Some q) × (out ≡ state_text (program_of source.program) (table_data source.table) q) → RunAnswer file text ending.Done out
ran_text file text source s out is schedule did =
    subst (RunAnswer file text ending.Done) (sym (did.2 ∙ ap (λ t. state_text (program_of source.program) t did.0) is.1.table))
    (ran is.0 (program_of source.program) s did.0 (the_input file text source s is schedule) did.1)

pub not_accepted_order : (file text : List ℕ) (ended : Ending) (line : List ℕ) → NoAccepted file ended line → SerialiseAnswer file text ended line
not_accepted_order file text ended line told = not_accepted told

pub no_source_order : (file text : List ℕ) (ended : Ending) (line : List ℕ) → NoSource file ended line → SerialiseAnswer file text ended line
no_source_order file text ended line told = not_accepted (no_source_accepted told)

pub unread_order : (file text : List ℕ) (source : Source) → IsSourceOf file source → IsAccepted (program_of source.program) → (ended : Ending) (line : List ℕ) → NoSchedule text ended line → SerialiseAnswer file text ended line
unread_order file text source is accepted ended line told = no_schedule_order is.0 (program_of source.program) (well_formed_source file is.0 source is.1) accepted told

pub refused_order : (file text : List ℕ) (source : Source) (s : List ℕ) → IsSourceOf file source → IsAccepted (program_of source.program) → IsSchedule text s
    → (ended : Ending) (line : List ℕ) → NoOrder (program_of source.program) s ended line → SerialiseAnswer file text ended line
refused_order file text source s is accepted schedule ended line told = no_order is.0 (program_of source.program) s (the_input file text source s is schedule) accepted told

-- the states of one run are one
pub same_state : (P : Program) (s : List ℕ) (q r : State) → run P s ≡ Some q → run P s ≡ Some r → q ≡ r
same_state P s q r one other = let e : Some q ≡ Some r = sym one ∙ other in cc

pub serialised_text : (file text : List ℕ) (source : Source) (s order said out : List ℕ) → IsSourceOf file source → IsAccepted (program_of source.program) → IsSchedule text s
    → (q : State) × (run (program_of source.program) s ≡ Some q) × (said ≡ state_text (program_of source.program) (table_data source.table) q)
    → IsRewritten (program_of source.program) s order → length s ≤ 200000 → out ≡ written order ++ commented said → (length order ≤ 200000 → IsSchedule out order) → SerialiseAnswer file text ending.Done out
serialised_text file text source s order said out is accepted schedule did does few e spells =
    let P = program_of source.program in
    let same = same_state P s did.0 does.end did.1 does.ran in
    let long = as_long s order does.serial.rearranges in
    let short : length order ≤ 200000 = omega (arith, long, few) in
    let says = did.2 ∙ ap (λ t. state_text P t did.0) is.1.table ∙ ap (state_text P (table_of is.0)) same in
    serialised is.0 P s does.end (the_input file text source s is schedule) accepted does.ran does.closed (record {
      says = e ∙ ap (λ o. written o ++ commented said) does.written ∙ ap (λ t. written (written_order P s) ++ commented t) says;
      spells = subst (IsSchedule out) does.written (spells short);
      serial = subst (λ o. IsSerial P s o does.end) does.written does.serial;
    })
