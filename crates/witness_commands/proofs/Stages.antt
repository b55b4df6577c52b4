-- What is answered to the bytes of the files, and the sentence.
use Rattle.std.proofs.Common.{◌≡◌, ℕ, ◌≤◌, List, Option, Some, None, length, ap, sym, subst, ◌∙◌, arith, inl, inr, ◌⊎◌}
use Rattle.std.specs.Io.KnownBytes.{Appends}
use Rattle.core_program.specs.Core.{Program}
use Rattle.core_program.specs.Typed.{IsTyped}
use Rattle.core_program.specs.Views.{program_of}
use Rattle.witness.specs.declared.verdict.Verdict.{Verdict}
use Rattle.witness.specs.declared.verdict.Verdict.TheVariants as verdict
use Rattle.witness.specs.declared.seeking.Sought.{Sought}
use Rattle.witness.specs.declared.seeking.Sought.TheVariants as sought
use Rattle.witness.specs.Findings.{IsSought}
use Rattle.witness.specs.Verdicts.{IsVerdict}
use Rattle.witness.specs.Witness.{Comparison, SameObjects, IsLike, IsWitnessAs}
use Rattle.edge.specs.Said.{IsTroubleStatus}
use Rattle.edge.proofs.Statuses.{yield_range}
use Rattle.rules.specs.Rules.{IsAccepted}
use Rattle.schedule.specs.Text.{IsSchedule}
use Rattle.schedule_commands.specs.Schedules.{IsInput, NoSchedule, NoOrder}
use Rattle.schedule.proofs.UniqueLemmas.{short_schedule}
use Rattle.schedule_commands.proofs.Counts.{as_long}
use Rattle.schedule_commands.proofs.ScheduleRows.{the_input}
use Rattle.witness_commands.specs.Lines.{undecided_line}
use Rattle.sources.specs.declared.checking.Source.{Source}
use Rattle.sources.specs.declared.refusal.Ending.{Ending}
use Rattle.sources.specs.Checking.{IsSourceOf, NoSource}
use Rattle.sources.proofs.Verdicts.{well_formed_source}
use Rattle.sources.specs.Files.{WritesText}
use Rattle.syntax.specs.Trees.{ProgramTree}
use Rattle.witness_commands.specs.Answers.{most_states, IsSaid, RefusesInput, no_source, no_schedule, no_end, IsToldOfSchedule, kept, broken, undecided, AnswersSchedule, refused, told, AnswersSearch, no_program, found, nothing, WitnessAnswer, IsSoughtSaid}
use Rattle.witness_commands.specs.Sentence.{ShowsBroken}
use Rattle.witness_commands.specs.Written.{BelongsToFiles, source_large, schedule_large, answered}
use Rattle.witness_commands.proofs.Endings.{witness_of, refuses_other}
use Rattle.witness_commands.proofs.SearchEndings.{source_other}

pub no_source_refuses : (file text : List ℕ) (ended : Ending) (line : List ℕ) → NoSource file ended line → RefusesInput file text ended line
no_source_refuses file text ended line is = no_source is

pub no_schedule_refuses : (file text : List ℕ) (source : Source) → IsSourceOf file source → (ended : Ending) (line : List ℕ) → NoSchedule text ended line → RefusesInput file text ended line
no_schedule_refuses file text source is ended line says = no_schedule is.0 (program_of source.program) (well_formed_source file is.0 source is.1) says

pub no_end_refuses : (file text : List ℕ) (source : Source) (s : List ℕ) → IsSourceOf file source → IsSchedule text s → (ended : Ending) (line : List ℕ) → NoOrder (program_of source.program) s ended line
    → RefusesInput file text ended line
no_end_refuses file text source s is schedule ended line says = no_end is.0 (program_of source.program) s (the_input file text source s is schedule) says

-- what is told of a schedule, from its verdict
told_of : (P : Program) (s : List ℕ) (v : Verdict) (status : ℕ) (out : List ℕ) → IsTyped P
    → ((by : Comparison) → IsTyped P → IsAccepted P → (r : List ℕ) → IsWitnessAs P (IsLike by) r → ⊥) → length s ≤ 200000 → IsVerdict P most_states s v → IsSaid v status out → IsToldOfSchedule P s status out
told_of P s (verdict.Kept r) status out typed law few is says =
    let order = is.2 in
    let long = as_long s r.items order.rearranges in
    let spells = says.2 (omega (arith, long, few)) in
    subst (λ n. IsToldOfSchedule P s n out) (sym says.0) (subst (IsToldOfSchedule P s 0) (sym says.1) (kept is.0 r.items is.1 order (subst (λ o. IsSchedule o r.items) says.1 spells)))
told_of P s (verdict.Broken sense) status out typed law few is says =
    subst (λ n. IsToldOfSchedule P s n out) (sym says.0) (subst (IsToldOfSchedule P s 2) (sym says.1) (broken sense.by sense.full is (λ accepted. law SameObjects typed accepted s (witness_of P s sense.by sense.full is))))
told_of P s (verdict.Undecided seen) status out typed law few is says =
    subst (λ n. IsToldOfSchedule P s n out) (sym says.0) (subst (IsToldOfSchedule P s 16) (sym (says.1 ∙ ap undecided_line is.2)) (undecided is.0 is.1))

pub told_answer : (file text : List ℕ) (source : Source) (s : List ℕ) (v : Verdict) (status : ℕ) (out : List ℕ)
    → ((P : Program) (by : Comparison) → IsTyped P → IsAccepted P → (r : List ℕ) → IsWitnessAs P (IsLike by) r → ⊥) → (is : IsSourceOf file source) → IsSchedule text s
    → IsVerdict (program_of source.program) most_states s v → IsSaid v status out → AnswersSchedule file text status out
told_answer file text source s v status out law is schedule verdict says =
    let P = program_of source.program in
    told is.0 P s (the_input file text source s is schedule) (told_of P s v status out is.1.typed (law P) (short_schedule text s schedule) verdict says)

-- what is told of a source, from what a search found
pub told_sought : (file : List ℕ) (source : Source) (its : Sought) (status : ℕ) (out : List ℕ)
    → ((P : Program) (by : Comparison) → IsTyped P → IsAccepted P → (r : List ℕ) → IsWitnessAs P (IsLike by) r → ⊥) → IsSourceOf file source
    → IsSought (program_of source.program) its → IsSoughtSaid its status out → AnswersSearch file status out
told_sought file source (sought.Witness it) status out law is shown says =
    let P = program_of source.program in
    let s = it.schedule.items in
    let spells = subst (λ o. IsSchedule o s) says.1 (says.2 shown.short) in
    let none : IsAccepted P → ⊥ = λ accepted. law P SameObjects is.1.typed accepted s (witness_of P s it.sense.by it.sense.full shown.broken) in
    subst (λ n. AnswersSearch file n out) (sym says.0) (subst (AnswersSearch file 2) (sym says.1)
    (found is.0 P s it.sense.by it.sense.full (well_formed_source file is.0 source is.1) shown.broken spells none))
told_sought file source (sought.Nothing tried) status out law is shown says =
    subst (λ n. AnswersSearch file n out) (sym says.0) (subst (AnswersSearch file 16) (sym says.1) (nothing is.0 (program_of source.program) tried (well_formed_source file is.0 source is.1)))

-- The sentence.

shows_told : (file text : List ℕ) (old new : Option (List ℕ)) (tree : ProgramTree) (P : Program) (s : List ℕ) (status : ℕ) (out : List ℕ) → IsInput file text tree P s → IsToldOfSchedule P s status out → status ≡ 2
    → ShowsBroken file (Some text) old new
shows_told file text old new tree P s _ _ input (kept q r ends order spells) two = absurd (omega (arith, two))
shows_told file text old new tree P s _ _ input (broken by full is none) two = record {
  tree = tree;
  program = P;
  schedule = s;
  source = input.source;
  spelt = input.schedule;
  witness = witness_of P s by full is;
  inadmissible = none;
}
shows_told file text old new tree P s _ _ input (undecided q ends) two = absurd (omega (arith, two))

shows_verdict : (file text : List ℕ) (old new : Option (List ℕ)) (status : ℕ) (out : List ℕ) → AnswersSchedule file text status out → status ≡ 2 → ShowsBroken file (Some text) old new
shows_verdict file text old new _ _ (refused {ending = ended} {line = line} is) two = absurd (refuses_other file text ended line is two)
shows_verdict file text old new _ _ (told {status = status} {out = out} tree P s input is) two = shows_told file text old new tree P s status out input is two

shows_found : (file : List ℕ) (old new : Option (List ℕ)) (status : ℕ) (out : List ℕ) → AnswersSearch file status out → status ≡ 2 → Appends old new out → ShowsBroken file None old new
shows_found file old new _ _ (no_program {ending = ended} {line = line} is) two wrote = absurd (source_other file ended line is two)
shows_found file old new _ _ (found tree P s by full source is spells none) two wrote = record {
  tree = tree;
  program = P;
  schedule = s;
  source = source;
  spelt = (_, spells, wrote);
  witness = witness_of P s by full is;
  inadmissible = none;
}
shows_found file old new _ _ (nothing tree P tried source) two wrote = absurd (omega (arith, two))

shows_answer : (file : List ℕ) (text old new : Option (List ℕ)) (status : ℕ) (out : List ℕ) → WitnessAnswer file text status out → status ≡ 2 → Appends old new out → ShowsBroken file text old new
shows_answer file (Some text) old new status out is two wrote = shows_verdict file text old new status out is two
shows_answer file None old new status out is two wrote = shows_found file old new status out is two wrote

shows : (source : List ℕ) (schedule : Option (List ℕ)) (file : List ℕ) (text old new : Option (List ℕ)) (status : ℕ) (out : List ℕ) → BelongsToFiles source schedule file text status out → status ≡ 2 → Appends old new out
    → ShowsBroken file text old new
shows source schedule file text old new _ _ (source_large over) two wrote = absurd (omega (arith, two))
shows source schedule file text old new _ _ (schedule_large name bytes named is small over) two wrote = absurd (omega (arith, two))
shows source schedule file text old new _ _ (answered {status = status} {out = out} within is) two wrote = shows_answer file text old new status out is two wrote

not_two : (status : ℕ) → IsTroubleStatus status → status ≡ 2 → ⊥
not_two status y two = let r = yield_range status y in omega (arith, r.0, two)

pub sentence_at : (source : List ℕ) (schedule : Option (List ℕ)) (file : List ℕ) (text old new : Option (List ℕ)) (status : ℕ)
    → IsTroubleStatus status ⊎ WritesText (BelongsToFiles source schedule file text status) old new → status ≡ 2 → ShowsBroken file text old new
sentence_at source schedule file text old new status (inl y) two = absurd (not_two status y two)
sentence_at source schedule file text old new status (inr w) two = shows source schedule file text old new status w.text w.belongs two w.written
