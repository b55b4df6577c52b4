-- Refusals and answers of `generate`.
use Rattle.std.proofs.Common.{◌≡◌, ◌≤◌, ◌<◌, ◌^◌, List, ℕ, length, get_or, ap, refl, subst, ◌∙◌, arith}
use Rattle.lexer.specs.Limits.{longest_source}
use Rattle.core_program.specs.Views.{program_of}
use Rattle.schedule.specs.Rounds.{IsGenerated}
use Rattle.schedule.specs.Sources.{generated_source}
use Rattle.schedule.proofs.Counted.{generated_size}
use Rattle.schedule.proofs.Growing.{source_size}
use Rattle.rules.specs.Rules.{IsAccepted}
use Rattle.schedule.specs.Text.{IsSchedule}
use Rattle.schedule.specs.Written.{written}
use Rattle.schedule.proofs.WrittenLemmas.{read_back}
use Rattle.serialise.specs.Rewritten.{IsRewritten}
use Rattle.sources.specs.declared.checking.Source.{Source}
use Rattle.sources.specs.declared.refusal.Ending.{Ending}
use Rattle.sources.specs.declared.refusal.Ending.TheVariants as ending
use Rattle.sources.specs.Checking.{NoSource, IsSourceOf}
use Rattle.sources.specs.Facts.{RefusedAs}
use Rattle.sources.specs.Verdicts.{NoAccepted, no_source as no_source_accepted}
use Rattle.sources.proofs.Apart.{no_accepted_is}
use Rattle.schedule_commands.specs.Schedules.{NoOrder}
use Rattle.schedule_commands.specs.Serialise.{not_accepted, no_order}
use Rattle.schedule_commands.specs.Generate.{GenerateAnswer, refused, generated, figures}
use Rattle.schedule_commands.proofs.ScheduleEndings.{order_ends}
use Rattle.schedule_commands.proofs.ScheduleRows.{the_input}

-- the source is small, and the schedule short
pub small_source : (n : ℕ) (file : List ℕ) → n < 1000 → file ≡ generated_source n → length file ≤ longest_source
small_source n file small is = omega (arith, ap length is, source_size n, small)

pub short_rounds : (n : ℕ) (s : List ℕ) → n < 1000 → IsGenerated n s → length s ≤ 200000
short_rounds n s small made = omega (arith, generated_size n s made, small)

pub not_accepted_generated : (n : ℕ) (s : List ℕ) → IsGenerated n s → (ended : Ending) (line : List ℕ) → NoAccepted (generated_source n) ended line → GenerateAnswer n ended line
not_accepted_generated n s made ended line told =
    refused s made (λ e. subst (RefusedAs (generated_source n)) e (no_accepted_is (generated_source n) ended line told)) (not_accepted told)

pub no_source_generated : (n : ℕ) (s : List ℕ) → IsGenerated n s → (ended : Ending) (line : List ℕ) → NoSource (generated_source n) ended line → GenerateAnswer n ended line
no_source_generated n s made ended line told = not_accepted_generated n s made ended line (no_source_accepted told)

-- the schedule is that of its text
written_back : (n : ℕ) (s : List ℕ) → n < 1000 → IsGenerated n s → ((i : ℕ) → get_or s i 0 < 2 ^ 32) → IsSchedule (written s) s
written_back n s small made fits = read_back (written s) s refl fits (short_rounds n s small made)

pub refused_generated : (n : ℕ) (source : Source) (s : List ℕ) → n < 1000 → IsSourceOf (generated_source n) source → IsAccepted (program_of source.program) → IsGenerated n s → ((i : ℕ) → get_or s i 0 < 2 ^ 32)
    → (ended : Ending) (line : List ℕ) → NoOrder (program_of source.program) s ended line → GenerateAnswer n ended line
refused_generated n source s small is accepted made fits ended line told =
    let P = program_of source.program in
    refused s made (order_ends P s ended line told) (no_order is.0 P s (the_input (generated_source n) (written s) source s is (written_back n s small made fits)) accepted told)

pub generated_text : (n : ℕ) (source : Source) (s order out : List ℕ) → n < 1000 → IsSourceOf (generated_source n) source → IsAccepted (program_of source.program) → IsGenerated n s → ((i : ℕ) → get_or s i 0 < 2 ^ 32)
    → (does : IsRewritten (program_of source.program) s order) → out ≡ figures n order does.end.heap → GenerateAnswer n ending.Done out
generated_text n source s order out small is accepted made fits does says =
    let P = program_of source.program in
    generated s is.0 P does.end made (the_input (generated_source n) (written s) source s is (written_back n s small made fits)) accepted does.ran does.closed
    (says ∙ ap (λ o. figures n o does.end.heap) does.written)
