-- Which ending comes for the answer to a row on a schedule.
use Rattle.std.proofs.Common.{◌≡◌, ℕ, List, [], ◌∷◌, ◌++◌, Some, None, zero, suc, true, false, is_some, take, drop, slice_get, option_and_then, refl, sym, subst, ap, ◌∙◌}
use Rattle.core_program.specs.Core.{Program}
use Rattle.machine.specs.declared.machine.Stopped.{Stopped}
use Rattle.machine.specs.Standing.{IsStopped}
use Rattle.machine.proofs.Schedules.{no_step}
use Rattle.rules.specs.Rules.{IsAccepted}
use Rattle.schedule.proofs.UniqueLemmas.{one_schedule, schedule_or_form, schedule_or_long}
use Rattle.sources.specs.declared.refusal.Ending.{Ending}
use Rattle.sources.specs.declared.refusal.Ending.TheVariants as ending
use Rattle.sources.specs.Facts.{IsNotWellFormed, IsAcceptedSource, RefusedAs}
use Rattle.sources.proofs.Apart.{same_core, no_source_is_none, no_source_ends, no_accepted_is, accepted_or_none}
use Rattle.state.specs.States.{State, initial}
use Rattle.semantics.specs.Step.{outcome, step}
use Rattle.semantics.specs.Run.{run, run_from, Runs, open_thread}
use Rattle.semantics.proofs.RunLemmas.{run_from-append}
use Rattle.syntax.specs.Trees.{ProgramTree}
use Rattle.schedule_commands.specs.Schedules.{NoSchedule, form, too_long, NoRun, stopped, NoOrder, no_run as no_run_order, open_call, IsInput, HasInput, IsNoSchedule, LeavesCallOpen, EndsOutside}
use Rattle.schedule_commands.specs.Run.{RunAnswer, RunFact, no_source, no_schedule, no_run, ran}
use Rattle.schedule_commands.specs.Serialise.{SerialiseAnswer, SerialiseFact, not_accepted, no_schedule as no_schedule_order, no_order, serialised}

-- a list in two parts at one of its entries
split_at : (s : List ℕ) (place t : ℕ) → slice_get s place ≡ Some t → s ≡ take place s ++ (t ∷ drop (suc place) s)
split_at [] zero t e = absurd (let f : false ≡ true = ap is_some e in cc)
split_at [] (suc place) t e = absurd (let f : false ≡ true = ap is_some e in cc)
split_at (x ∷ s) zero t e = let same : x ≡ t = cc in ap (λ z. z ∷ s) same
split_at (x ∷ s) (suc place) t e = ap (λ z. x ∷ z) (split_at s place t e)

-- a schedule that stops doesn't run
stops_no_run : (P : Program) (s : List ℕ) (at : Stopped) → IsStopped P (initial P) s at → Runs P s → ⊥
stops_no_run P s at is runs =
    let stop = is.stop in
    let none : step P is.before at.thread ≡ None = no_step is.before at.thread at.why (outcome P is.before at.thread) stop.why is.refused in
    let rest = drop (suc stop.place) s in
    let e : run P s ≡ None =
    ap (run P) (split_at s stop.place at.thread stop.thread)
    ∙ run_from-append P (initial P) (take stop.place s) (at.thread ∷ rest)
    ∙ ap (option_and_then (λ next. run_from P next (at.thread ∷ rest))) stop.ran
    ∙ ap (option_and_then (λ next. run_from P next rest)) none in
    let f : false ≡ true = sym (ap is_some e) ∙ runs in cc

pub runs_to : (P : Program) (s : List ℕ) (q : State) → run P s ≡ Some q → Runs P s
runs_to P s q e = ap is_some e

outside_or_inside : (P : Program) (s : List ℕ) → EndsOutside P s → LeavesCallOpen P s → ⊥
outside_or_inside P s out into =
    let same : Some out.0 ≡ Some into.0 = sym out.1 ∙ into.1 in
    let state : out.0 ≡ into.0 = cc in
    let f : false ≡ true = sym (ap is_some (sym (ap (open_thread P) state) ∙ out.2)) ∙ into.2 in cc

-- two files are one source and one schedule at most
pub inputs_apart : (file text : List ℕ) (F G : Program → List ℕ → Type 0) → ((P : Program) (s : List ℕ) → F P s → G P s → ⊥) → HasInput file text F → HasInput file text G → ⊥
inputs_apart file text F G not f g =
    let P = f.1 in let s = f.2 in
    let program : g.1 ≡ f.1 = same_core file g.0 f.0 g.1 f.1 g.3.source.has_core f.3.source.has_core in
    let schedule : g.2 ≡ f.2 = one_schedule text g.2 f.2 g.3.schedule f.3.schedule in
    not f.1 f.2 f.4 (subst (λ Q. G Q f.2) program (subst (λ r. G g.1 r) schedule g.4))

pub no_source_input : (file text : List ℕ) (F : Program → List ℕ → Type 0) → HasInput file text F → IsNotWellFormed file → ⊥
no_source_input file text F f none = none f.0 f.1 f.3.source

pub no_schedule_input : (file text : List ℕ) (F : Program → List ℕ → Type 0) → HasInput file text F → IsNoSchedule text → ⊥
no_schedule_input file text F f none = none f.2 f.3.schedule

pub accepted_input : (file text : List ℕ) (F : Program → List ℕ → Type 0) → HasInput file text (λ P s. IsAccepted P × F P s) → IsAcceptedSource file
accepted_input file text F f = (f.0, f.1, f.3.source, f.4.0)

-- a text with a line that refuses it spells no schedule
pub refused_text : (text : List ℕ) (ended : Ending) (line : List ℕ) → NoSchedule text ended line → (ended ≡ ending.NoSchedule) × IsNoSchedule text
refused_text text _ _ (form place is) = (refl, λ s i. schedule_or_form text s place i is)
refused_text text _ _ (too_long place is) = (refl, λ s i. schedule_or_long text s place i is)

pub refused_run : (P : Program) (s : List ℕ) (ended : Ending) (line : List ℕ) → NoRun P s ended line → (ended ≡ ending.Stopped) × (Runs P s → ⊥)
refused_run P s _ _ (stopped at is) = (refl, stops_no_run P s at is)

-- a schedule with a line that refuses it isn't done
pub order_ends : (P : Program) (s : List ℕ) (ended : Ending) (line : List ℕ) → NoOrder P s ended line → ended ≡ ending.Done → ⊥
order_ends P s _ _ (no_run_order {ending = ended} {line = line} is) e = let f : ending.Stopped ≡ ending.Done = sym (refused_run P s ended line is).0 ∙ e in cc
order_ends P s _ _ (open_call q t went stands) e = let f : ending.Open ≡ ending.Done = e in cc

-- `run`: each ending has its fact, and one alone
pub run_caused : (file text : List ℕ) (ended : Ending) (out : List ℕ) → RunAnswer file text ended out → RunFact file text ended
run_caused file text _ _ (no_source {ending = ended} {line = line} is) = subst (RunFact file text) (sym (no_source_ends file ended line is)) (no_source_is_none file ended line is)
run_caused file text _ _ (no_schedule {ending = ended} {line = line} tree P source is) =
    let r = refused_text text ended line is in subst (RunFact file text) (sym r.0) ((tree, P, source), r.1)
run_caused file text _ _ (no_run {ending = ended} {line = line} tree P s input is) =
    let r = refused_run P s ended line is in subst (RunFact file text) (sym r.0) (tree, P, s, input, r.1)
run_caused file text _ _ (ran tree P s q input e) = (tree, P, s, input, runs_to P s q e)

pub run_apart : (file text : List ℕ) (one other : Ending) → RunFact file text one → RunFact file text other → one ≡ other
run_apart file text ending.Done ending.Done f g = refl
run_apart file text ending.Done ending.Refused f g = absurd (no_source_input file text (λ P s. Runs P s) f g)
run_apart file text ending.Done ending.Inadmissible f g = absurd g
run_apart file text ending.Done ending.NoSchedule f g = absurd (no_schedule_input file text (λ P s. Runs P s) f g.1)
run_apart file text ending.Done ending.Stopped f g = absurd (inputs_apart file text (λ P s. Runs P s) (λ P s. Runs P s → ⊥) (λ P s a b. b a) f g)
run_apart file text ending.Done ending.Open f g = absurd g
run_apart file text ending.Refused ending.Done f g = absurd (no_source_input file text (λ P s. Runs P s) g f)
run_apart file text ending.Refused ending.Refused f g = refl
run_apart file text ending.Refused ending.Inadmissible f g = absurd g
run_apart file text ending.Refused ending.NoSchedule f g = absurd (f g.0.0 g.0.1 g.0.2)
run_apart file text ending.Refused ending.Stopped f g = absurd (no_source_input file text (λ P s. Runs P s → ⊥) g f)
run_apart file text ending.Refused ending.Open f g = absurd g
run_apart file text ending.Inadmissible other f g = absurd f
run_apart file text ending.NoSchedule ending.Done f g = absurd (no_schedule_input file text (λ P s. Runs P s) g f.1)
run_apart file text ending.NoSchedule ending.Refused f g = absurd (g f.0.0 f.0.1 f.0.2)
run_apart file text ending.NoSchedule ending.Inadmissible f g = absurd g
run_apart file text ending.NoSchedule ending.NoSchedule f g = refl
run_apart file text ending.NoSchedule ending.Stopped f g = absurd (no_schedule_input file text (λ P s. Runs P s → ⊥) g f.1)
run_apart file text ending.NoSchedule ending.Open f g = absurd g
run_apart file text ending.Stopped ending.Done f g = absurd (inputs_apart file text (λ P s. Runs P s) (λ P s. Runs P s → ⊥) (λ P s a b. b a) g f)
run_apart file text ending.Stopped ending.Refused f g = absurd (no_source_input file text (λ P s. Runs P s → ⊥) f g)
run_apart file text ending.Stopped ending.Inadmissible f g = absurd g
run_apart file text ending.Stopped ending.NoSchedule f g = absurd (no_schedule_input file text (λ P s. Runs P s → ⊥) f g.1)
run_apart file text ending.Stopped ending.Stopped f g = refl
run_apart file text ending.Stopped ending.Open f g = absurd g
run_apart file text ending.Open other f g = absurd f
run_apart file text ending.BookRefused other f g = absurd f
run_apart file text ending.NothingToBlame other f g = absurd f
run_apart file text ending.BlameRefused other f g = absurd f
run_apart file text ending.LevelsRefused other f g = absurd f
run_apart file text ending.CallTooDeep other f g = absurd f
run_apart file text ending.Done ending.BookRefused f g = absurd g
run_apart file text ending.Done ending.NothingToBlame f g = absurd g
run_apart file text ending.Done ending.BlameRefused f g = absurd g
run_apart file text ending.Done ending.LevelsRefused f g = absurd g
run_apart file text ending.Done ending.CallTooDeep f g = absurd g
run_apart file text ending.Refused ending.BookRefused f g = absurd g
run_apart file text ending.Refused ending.NothingToBlame f g = absurd g
run_apart file text ending.Refused ending.BlameRefused f g = absurd g
run_apart file text ending.Refused ending.LevelsRefused f g = absurd g
run_apart file text ending.Refused ending.CallTooDeep f g = absurd g
run_apart file text ending.NoSchedule ending.BookRefused f g = absurd g
run_apart file text ending.NoSchedule ending.NothingToBlame f g = absurd g
run_apart file text ending.NoSchedule ending.BlameRefused f g = absurd g
run_apart file text ending.NoSchedule ending.LevelsRefused f g = absurd g
run_apart file text ending.NoSchedule ending.CallTooDeep f g = absurd g
run_apart file text ending.Stopped ending.BookRefused f g = absurd g
run_apart file text ending.Stopped ending.NothingToBlame f g = absurd g
run_apart file text ending.Stopped ending.BlameRefused f g = absurd g
run_apart file text ending.Stopped ending.LevelsRefused f g = absurd g
run_apart file text ending.Stopped ending.CallTooDeep f g = absurd g

-- `serialise`: the same
refused_fact : (file text : List ℕ) (ended : Ending) → RefusedAs file ended → SerialiseFact file text ended
refused_fact file text ending.Done is = absurd is
refused_fact file text ending.Refused is = is
refused_fact file text ending.Inadmissible is = is
refused_fact file text ending.NoSchedule is = absurd is
refused_fact file text ending.Stopped is = absurd is
refused_fact file text ending.Open is = absurd is
refused_fact file text ending.BookRefused is = absurd is
refused_fact file text ending.NothingToBlame is = absurd is
refused_fact file text ending.BlameRefused is = absurd is
refused_fact file text ending.LevelsRefused is = absurd is
refused_fact file text ending.CallTooDeep is = absurd is

order_caused : (file text : List ℕ) (ended : Ending) (line : List ℕ) (tree : ProgramTree) (P : Program) (s : List ℕ) → IsInput file text tree P s → IsAccepted P → NoOrder P s ended line → SerialiseFact file text ended
order_caused file text _ _ tree P s input accepted (no_run_order {ending = ended} {line = line} is) =
    let r = refused_run P s ended line is in subst (SerialiseFact file text) (sym r.0) (tree, P, s, input, (accepted, r.1))
order_caused file text _ _ tree P s input accepted (open_call q t e stands) = (tree, P, s, input, (accepted, (q, e, ap is_some stands)))

pub serialise_caused : (file text : List ℕ) (ended : Ending) (out : List ℕ) → SerialiseAnswer file text ended out → SerialiseFact file text ended
serialise_caused file text _ _ (not_accepted {ending = ended} {line = line} is) = refused_fact file text ended (no_accepted_is file ended line is)
serialise_caused file text _ _ (no_schedule_order {ending = ended} {line = line} tree P source accepted is) =
    let r = refused_text text ended line is in subst (SerialiseFact file text) (sym r.0) ((tree, P, source, accepted), r.1)
serialise_caused file text _ _ (no_order {ending = ended} {line = line} tree P s input accepted is) = order_caused file text ended line tree P s input accepted is
serialise_caused file text _ _ (serialised tree P s q input accepted e outside is) = (tree, P, s, input, (accepted, (q, e, outside)))

pub serialise_apart : (file text : List ℕ) (one other : Ending) → SerialiseFact file text one → SerialiseFact file text other → one ≡ other
serialise_apart file text ending.Done ending.Done f g = refl
serialise_apart file text ending.Done ending.Refused f g = absurd (no_source_input file text (λ P s. IsAccepted P × EndsOutside P s) f g)
serialise_apart file text ending.Done ending.Inadmissible f g = absurd (accepted_or_none file (accepted_input file text EndsOutside f) g)
serialise_apart file text ending.Done ending.NoSchedule f g = absurd (no_schedule_input file text (λ P s. IsAccepted P × EndsOutside P s) f g.1)
serialise_apart file text ending.Done ending.Stopped f g = absurd (inputs_apart file text (λ P s. IsAccepted P × EndsOutside P s) (λ P s. IsAccepted P × (Runs P s → ⊥)) (λ P s a b. b.1 (runs_to P s a.1.0 a.1.1)) f g)
serialise_apart file text ending.Done ending.Open f g = absurd (inputs_apart file text (λ P s. IsAccepted P × EndsOutside P s) (λ P s. IsAccepted P × LeavesCallOpen P s) (λ P s a b. outside_or_inside P s a.1 b.1) f g)
serialise_apart file text ending.Refused ending.Done f g = absurd (no_source_input file text (λ P s. IsAccepted P × EndsOutside P s) g f)
serialise_apart file text ending.Refused ending.Refused f g = refl
serialise_apart file text ending.Refused ending.Inadmissible f g = absurd (f g.0 g.1 g.2)
serialise_apart file text ending.Refused ending.NoSchedule f g = absurd (f g.0.0 g.0.1 g.0.2)
serialise_apart file text ending.Refused ending.Stopped f g = absurd (no_source_input file text (λ P s. IsAccepted P × (Runs P s → ⊥)) g f)
serialise_apart file text ending.Refused ending.Open f g = absurd (no_source_input file text (λ P s. IsAccepted P × LeavesCallOpen P s) g f)
serialise_apart file text ending.Inadmissible ending.Done f g = absurd (accepted_or_none file (accepted_input file text EndsOutside g) f)
serialise_apart file text ending.Inadmissible ending.Refused f g = absurd (g f.0 f.1 f.2)
serialise_apart file text ending.Inadmissible ending.Inadmissible f g = refl
serialise_apart file text ending.Inadmissible ending.NoSchedule f g = absurd (accepted_or_none file g.0 f)
serialise_apart file text ending.Inadmissible ending.Stopped f g = absurd (accepted_or_none file (accepted_input file text (λ P s. Runs P s → ⊥) g) f)
serialise_apart file text ending.Inadmissible ending.Open f g = absurd (accepted_or_none file (accepted_input file text LeavesCallOpen g) f)
serialise_apart file text ending.NoSchedule ending.Done f g = absurd (no_schedule_input file text (λ P s. IsAccepted P × EndsOutside P s) g f.1)
serialise_apart file text ending.NoSchedule ending.Refused f g = absurd (g f.0.0 f.0.1 f.0.2)
serialise_apart file text ending.NoSchedule ending.Inadmissible f g = absurd (accepted_or_none file f.0 g)
serialise_apart file text ending.NoSchedule ending.NoSchedule f g = refl
serialise_apart file text ending.NoSchedule ending.Stopped f g = absurd (no_schedule_input file text (λ P s. IsAccepted P × (Runs P s → ⊥)) g f.1)
serialise_apart file text ending.NoSchedule ending.Open f g = absurd (no_schedule_input file text (λ P s. IsAccepted P × LeavesCallOpen P s) g f.1)
serialise_apart file text ending.Stopped ending.Done f g = absurd (inputs_apart file text (λ P s. IsAccepted P × EndsOutside P s) (λ P s. IsAccepted P × (Runs P s → ⊥)) (λ P s a b. b.1 (runs_to P s a.1.0 a.1.1)) g f)
serialise_apart file text ending.Stopped ending.Refused f g = absurd (no_source_input file text (λ P s. IsAccepted P × (Runs P s → ⊥)) f g)
serialise_apart file text ending.Stopped ending.Inadmissible f g = absurd (accepted_or_none file (accepted_input file text (λ P s. Runs P s → ⊥) f) g)
serialise_apart file text ending.Stopped ending.NoSchedule f g = absurd (no_schedule_input file text (λ P s. IsAccepted P × (Runs P s → ⊥)) f g.1)
serialise_apart file text ending.Stopped ending.Stopped f g = refl
serialise_apart file text ending.Stopped ending.Open f g = absurd (inputs_apart file text (λ P s. IsAccepted P × LeavesCallOpen P s) (λ P s. IsAccepted P × (Runs P s → ⊥)) (λ P s a b. b.1 (runs_to P s a.1.0 a.1.1)) g f)
serialise_apart file text ending.Open ending.Done f g = absurd (inputs_apart file text (λ P s. IsAccepted P × EndsOutside P s) (λ P s. IsAccepted P × LeavesCallOpen P s) (λ P s a b. outside_or_inside P s a.1 b.1) g f)
serialise_apart file text ending.Open ending.Refused f g = absurd (no_source_input file text (λ P s. IsAccepted P × LeavesCallOpen P s) f g)
serialise_apart file text ending.Open ending.Inadmissible f g = absurd (accepted_or_none file (accepted_input file text LeavesCallOpen f) g)
serialise_apart file text ending.Open ending.NoSchedule f g = absurd (no_schedule_input file text (λ P s. IsAccepted P × LeavesCallOpen P s) f g.1)
serialise_apart file text ending.Open ending.Stopped f g = absurd (inputs_apart file text (λ P s. IsAccepted P × LeavesCallOpen P s) (λ P s. IsAccepted P × (Runs P s → ⊥)) (λ P s a b. b.1 (runs_to P s a.1.0 a.1.1)) f g)
serialise_apart file text ending.Open ending.Open f g = refl
serialise_apart file text ending.BookRefused other f g = absurd f
serialise_apart file text ending.NothingToBlame other f g = absurd f
serialise_apart file text ending.BlameRefused other f g = absurd f
serialise_apart file text ending.LevelsRefused other f g = absurd f
serialise_apart file text ending.CallTooDeep other f g = absurd f
serialise_apart file text ending.Done ending.BookRefused f g = absurd g
serialise_apart file text ending.Done ending.NothingToBlame f g = absurd g
serialise_apart file text ending.Done ending.BlameRefused f g = absurd g
serialise_apart file text ending.Done ending.LevelsRefused f g = absurd g
serialise_apart file text ending.Done ending.CallTooDeep f g = absurd g
serialise_apart file text ending.Refused ending.BookRefused f g = absurd g
serialise_apart file text ending.Refused ending.NothingToBlame f g = absurd g
serialise_apart file text ending.Refused ending.BlameRefused f g = absurd g
serialise_apart file text ending.Refused ending.LevelsRefused f g = absurd g
serialise_apart file text ending.Refused ending.CallTooDeep f g = absurd g
serialise_apart file text ending.Inadmissible ending.BookRefused f g = absurd g
serialise_apart file text ending.Inadmissible ending.NothingToBlame f g = absurd g
serialise_apart file text ending.Inadmissible ending.BlameRefused f g = absurd g
serialise_apart file text ending.Inadmissible ending.LevelsRefused f g = absurd g
serialise_apart file text ending.Inadmissible ending.CallTooDeep f g = absurd g
serialise_apart file text ending.NoSchedule ending.BookRefused f g = absurd g
serialise_apart file text ending.NoSchedule ending.NothingToBlame f g = absurd g
serialise_apart file text ending.NoSchedule ending.BlameRefused f g = absurd g
serialise_apart file text ending.NoSchedule ending.LevelsRefused f g = absurd g
serialise_apart file text ending.NoSchedule ending.CallTooDeep f g = absurd g
serialise_apart file text ending.Stopped ending.BookRefused f g = absurd g
serialise_apart file text ending.Stopped ending.NothingToBlame f g = absurd g
serialise_apart file text ending.Stopped ending.BlameRefused f g = absurd g
serialise_apart file text ending.Stopped ending.LevelsRefused f g = absurd g
serialise_apart file text ending.Stopped ending.CallTooDeep f g = absurd g
serialise_apart file text ending.Open ending.BookRefused f g = absurd g
serialise_apart file text ending.Open ending.NothingToBlame f g = absurd g
serialise_apart file text ending.Open ending.BlameRefused f g = absurd g
serialise_apart file text ending.Open ending.LevelsRefused f g = absurd g
serialise_apart file text ending.Open ending.CallTooDeep f g = absurd g
