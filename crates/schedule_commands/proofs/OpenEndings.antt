-- Which ending comes for the answer to `serialise-open`.
use Rattle.std.proofs.Common.{◌≡◌, ℕ, List, refl, sym, subst}
use Rattle.rules.specs.Rules.{IsAccepted}
use Rattle.sources.specs.declared.refusal.Ending.{Ending}
use Rattle.sources.specs.declared.refusal.Ending.TheVariants as ending
use Rattle.sources.specs.Facts.{RefusedAs}
use Rattle.sources.proofs.Apart.{no_accepted_is, accepted_or_none}
use Rattle.semantics.specs.Run.{Runs}
use Rattle.schedule_commands.specs.SerialiseOpen.{SerialiseOpenAnswer, SerialiseOpenFact, not_accepted, no_schedule, no_run, in_order}
use Rattle.schedule_commands.proofs.ScheduleEndings.{runs_to, inputs_apart, no_source_input, no_schedule_input, accepted_input, refused_text, refused_run}

refused_fact : (file text : List ℕ) (ended : Ending) → RefusedAs file ended → SerialiseOpenFact file text ended
refused_fact file text ending.Done is = absurd is
refused_fact file text ending.Refused is = is
refused_fact file text ending.Inadmissible is = is
refused_fact file text ending.NoSchedule is = absurd is
refused_fact file text ending.Stopped is = absurd is
refused_fact file text ending.Open is = absurd is
refused_fact file text ending.BookRefused is = absurd is
refused_fact file text ending.NothingToBlame is = absurd is
refused_fact file text ending.BlameRefused is = absurd is
refused_fact file text ending.LevelsRefused is = absurd is
refused_fact file text ending.CallTooDeep is = absurd is

pub open_caused : (file text : List ℕ) (ended : Ending) (out : List ℕ) → SerialiseOpenAnswer file text ended out → SerialiseOpenFact file text ended
open_caused file text _ _ (not_accepted {ending = ended} {line = line} is) = refused_fact file text ended (no_accepted_is file ended line is)
open_caused file text _ _ (no_schedule {ending = ended} {line = line} tree P source accepted is) =
    let r = refused_text text ended line is in subst (SerialiseOpenFact file text) (sym r.0) ((tree, P, source, accepted), r.1)
open_caused file text _ _ (no_run {ending = ended} {line = line} tree P s input accepted is) =
    let r = refused_run P s ended line is in subst (SerialiseOpenFact file text) (sym r.0) (tree, P, s, input, (accepted, r.1))
open_caused file text _ _ (in_order tree P s q input accepted e is) = (tree, P, s, input, (accepted, runs_to P s q e))

-- the schedule runs, or it doesn't
runs_or_stops : (file text : List ℕ) → SerialiseOpenFact file text ending.Done → SerialiseOpenFact file text ending.Stopped → ⊥
runs_or_stops file text f g = inputs_apart file text (λ P s. IsAccepted P × Runs P s) (λ P s. IsAccepted P × (Runs P s → ⊥)) (λ P s a b. b.1 a.1) f g

pub open_apart : (file text : List ℕ) (one other : Ending) → SerialiseOpenFact file text one → SerialiseOpenFact file text other → one ≡ other
open_apart file text ending.Done ending.Done f g = refl
open_apart file text ending.Done ending.Refused f g = absurd (no_source_input file text (λ P s. IsAccepted P × Runs P s) f g)
open_apart file text ending.Done ending.Inadmissible f g = absurd (accepted_or_none file (accepted_input file text Runs f) g)
open_apart file text ending.Done ending.NoSchedule f g = absurd (no_schedule_input file text (λ P s. IsAccepted P × Runs P s) f g.1)
open_apart file text ending.Done ending.Stopped f g = absurd (runs_or_stops file text f g)
open_apart file text ending.Refused ending.Done f g = absurd (no_source_input file text (λ P s. IsAccepted P × Runs P s) g f)
open_apart file text ending.Refused ending.Refused f g = refl
open_apart file text ending.Refused ending.Inadmissible f g = absurd (f g.0 g.1 g.2)
open_apart file text ending.Refused ending.NoSchedule f g = absurd (f g.0.0 g.0.1 g.0.2)
open_apart file text ending.Refused ending.Stopped f g = absurd (no_source_input file text (λ P s. IsAccepted P × (Runs P s → ⊥)) g f)
open_apart file text ending.Inadmissible ending.Done f g = absurd (accepted_or_none file (accepted_input file text Runs g) f)
open_apart file text ending.Inadmissible ending.Refused f g = absurd (g f.0 f.1 f.2)
open_apart file text ending.Inadmissible ending.Inadmissible f g = refl
open_apart file text ending.Inadmissible ending.NoSchedule f g = absurd (accepted_or_none file g.0 f)
open_apart file text ending.Inadmissible ending.Stopped f g = absurd (accepted_or_none file (accepted_input file text (λ P s. Runs P s → ⊥) g) f)
open_apart file text ending.NoSchedule ending.Done f g = absurd (no_schedule_input file text (λ P s. IsAccepted P × Runs P s) g f.1)
open_apart file text ending.NoSchedule ending.Refused f g = absurd (g f.0.0 f.0.1 f.0.2)
open_apart file text ending.NoSchedule ending.Inadmissible f g = absurd (accepted_or_none file f.0 g)
open_apart file text ending.NoSchedule ending.NoSchedule f g = refl
open_apart file text ending.NoSchedule ending.Stopped f g = absurd (no_schedule_input file text (λ P s. IsAccepted P × (Runs P s → ⊥)) g f.1)
open_apart file text ending.Stopped ending.Done f g = absurd (runs_or_stops file text g f)
open_apart file text ending.Stopped ending.Refused f g = absurd (no_source_input file text (λ P s. IsAccepted P × (Runs P s → ⊥)) f g)
open_apart file text ending.Stopped ending.Inadmissible f g = absurd (accepted_or_none file (accepted_input file text (λ P s. Runs P s → ⊥) f) g)
open_apart file text ending.Stopped ending.NoSchedule f g = absurd (no_schedule_input file text (λ P s. IsAccepted P × (Runs P s → ⊥)) f g.1)
open_apart file text ending.Stopped ending.Stopped f g = refl
open_apart file text ending.Open other f g = absurd f
open_apart file text ending.BookRefused other f g = absurd f
open_apart file text ending.NothingToBlame other f g = absurd f
open_apart file text ending.BlameRefused other f g = absurd f
open_apart file text ending.LevelsRefused other f g = absurd f
open_apart file text ending.CallTooDeep other f g = absurd f
open_apart file text ending.Done ending.Open f g = absurd g
open_apart file text ending.Done ending.BookRefused f g = absurd g
open_apart file text ending.Done ending.NothingToBlame f g = absurd g
open_apart file text ending.Done ending.BlameRefused f g = absurd g
open_apart file text ending.Done ending.LevelsRefused f g = absurd g
open_apart file text ending.Done ending.CallTooDeep f g = absurd g
open_apart file text ending.Refused ending.Open f g = absurd g
open_apart file text ending.Refused ending.BookRefused f g = absurd g
open_apart file text ending.Refused ending.NothingToBlame f g = absurd g
open_apart file text ending.Refused ending.BlameRefused f g = absurd g
open_apart file text ending.Refused ending.LevelsRefused f g = absurd g
open_apart file text ending.Refused ending.CallTooDeep f g = absurd g
open_apart file text ending.Inadmissible ending.Open f g = absurd g
open_apart file text ending.Inadmissible ending.BookRefused f g = absurd g
open_apart file text ending.Inadmissible ending.NothingToBlame f g = absurd g
open_apart file text ending.Inadmissible ending.BlameRefused f g = absurd g
open_apart file text ending.Inadmissible ending.LevelsRefused f g = absurd g
open_apart file text ending.Inadmissible ending.CallTooDeep f g = absurd g
open_apart file text ending.NoSchedule ending.Open f g = absurd g
open_apart file text ending.NoSchedule ending.BookRefused f g = absurd g
open_apart file text ending.NoSchedule ending.NothingToBlame f g = absurd g
open_apart file text ending.NoSchedule ending.BlameRefused f g = absurd g
open_apart file text ending.NoSchedule ending.LevelsRefused f g = absurd g
open_apart file text ending.NoSchedule ending.CallTooDeep f g = absurd g
open_apart file text ending.Stopped ending.Open f g = absurd g
open_apart file text ending.Stopped ending.BookRefused f g = absurd g
open_apart file text ending.Stopped ending.NothingToBlame f g = absurd g
open_apart file text ending.Stopped ending.BlameRefused f g = absurd g
open_apart file text ending.Stopped ending.LevelsRefused f g = absurd g
open_apart file text ending.Stopped ending.CallTooDeep f g = absurd g
