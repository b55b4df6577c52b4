-- When it ends how, where a schedule is given.
use Rattle.std.proofs.Common.{◌≡◌, ℕ, ◌<◌, ◌≤◌, List, Some, Bool, true, false, is_some, length, refl, sym, ap, subst, ◌∙◌, arith, inl, inr, ◌⊎◌}
use Rattle.std.proofs.lemmas.Option.{same_Some}
use Rattle.lexer.specs.Limits.{longest_source}
use Rattle.sources.specs.Limits.{longest_second_file}
use Rattle.core_program.specs.Core.{Program}
use Rattle.witness.specs.declared.goal.Compared.{Compared}
use Rattle.witness.specs.declared.goal.Compared.TheVariants.{Objects, Output}
use Rattle.witness.specs.Verdicts.{IsShown}
use Rattle.witness.specs.Witness.{SameObjects, IsLike, IsKeptAs}
use Rattle.edge.specs.Said.{Exactly, IsTroubleStatus}
use Rattle.edge.proofs.Statuses.{yield_range}
use Rattle.sources.specs.declared.refusal.Ending.{Ending}
use Rattle.sources.specs.Facts.{IsNotWellFormed}
use Rattle.sources.specs.Refusals.{code_of}
use Rattle.sources.proofs.Apart.{no_source_is_none, no_source_ends}
use Rattle.sources.proofs.Exact.{exactly, never, yields_other}
use Rattle.semantics.specs.Run.{Runs, open_thread}
use Rattle.schedule_commands.specs.Schedules.{NoOrder, no_run, open_call, HasInput, IsWellFormedText, IsNoSchedule, LeavesCallOpen, EndsOutside}
use Rattle.schedule_commands.proofs.ScheduleEndings.{runs_to, inputs_apart, no_source_input, no_schedule_input, refused_text, refused_run}
use Rattle.witness_commands.specs.Answers.{RefusesInput, no_source, no_schedule, no_end, IsToldOfSchedule, kept, broken, undecided, AnswersSchedule, refused, told, IsKeptEnd, IsWitnessOf}
use Rattle.witness_commands.specs.Reading.{AreInputsWithin}
use Rattle.witness_commands.specs.Written.{Decides, IsExactVerdict}

-- a witness in any sense is one by objects and output
pub witness_of : (P : Program) (s : List ℕ) (by : Compared) (full : Bool) → IsShown P s by full → IsWitnessOf P s
witness_of P s Objects false w = w
witness_of P s Objects true w = record { last = w.last; runs = w.runs; closed = w.closed; broken = λ k. w.broken (k.0, record { uninterrupted = k.1.uninterrupted; last = k.1.last; runs = k.1.runs; like = k.1.like }) }
witness_of P s Output false w = record {
  last = w.last;
  runs = w.runs;
  closed = w.closed;
  broken = λ k. w.broken (k.0, record { rearranges = k.1.rearranges; uninterrupted = k.1.uninterrupted; last = k.1.last; runs = k.1.runs; like = k.1.like.1 });
}
witness_of P s Output true w = record {
  last = w.last;
  runs = w.runs;
  closed = w.closed;
  broken = λ k. w.broken (k.0, record { uninterrupted = k.1.uninterrupted; last = k.1.last; runs = k.1.runs; like = k.1.like.1 });
}

-- What schedules can be, one at a time.

abbrev IsStuck : Program → List ℕ → Type 0
IsStuck P s = Runs P s → ⊥

stuck_or_inside : (P : Program) (s : List ℕ) → IsStuck P s → LeavesCallOpen P s → ⊥
stuck_or_inside P s stuck e = stuck (runs_to P s e.0 e.1)

stuck_or_outside : (P : Program) (s : List ℕ) → IsStuck P s → EndsOutside P s → ⊥
stuck_or_outside P s stuck e = stuck (runs_to P s e.0 e.1)

inside_or_outside : (P : Program) (s : List ℕ) → LeavesCallOpen P s → EndsOutside P s → ⊥
inside_or_outside P s into out =
    let state : out.0 ≡ into.0 = same_Some out.0 into.0 (sym out.1 ∙ into.1) in
    let f : false ≡ true = sym (ap is_some (sym (ap (open_thread P) state) ∙ out.2)) ∙ into.2 in cc

kept_outside : (P : Program) (s : List ℕ) → IsKeptEnd P s → EndsOutside P s
kept_outside P s k = (k.0, k.1.runs, k.1.closed)

witness_outside : (P : Program) (s : List ℕ) → IsWitnessOf P s → EndsOutside P s
witness_outside P s w = (w.last, w.runs, w.closed)

kept_or_witness : (P : Program) (s : List ℕ) → IsKeptEnd P s → IsWitnessOf P s → ⊥
kept_or_witness P s k w =
    let state : k.0 ≡ w.last = same_Some k.0 w.last (sym k.1.runs ∙ w.runs) in
    w.broken (subst (IsKeptAs P (IsLike SameObjects) s) state k.2)

-- Statuses and facts.

pub undone : (result status : ℕ) (fact : Type 0) → (result ≡ status → ⊥) → (fact → ⊥) → Decides result status fact
undone result status fact other not = record { only = λ e. absurd (other e); all = λ f. absurd (not f) }

pub decided : (status : ℕ) (fact : Type 0) → fact → Decides status status fact
decided status fact f = record { only = λ e. f; all = λ g. inl refl }

pub open_end : (status : ℕ) (fact : Type 0) → (16 ≡ status → ⊥) → Decides 16 status fact
open_end status fact other = record { only = λ e. absurd (other e); all = λ g. inr (inl refl) }

both_over : (file text : List ℕ) → (longest_source < length file) ⊎ (longest_second_file < length text) → AreInputsWithin file (Some text) → ⊥
both_over file text (inl over) within = omega (arith, over, within.0)
both_over file text (inr over) within = let short : length text ≤ longest_second_file = within.1 in omega (arith, over, short)

module _ (file text : List ℕ) (within : AreInputsWithin file (Some text)) where
  large : (status : ℕ) → (status ≡ 10 → ⊥) → Exactly status 10 ((longest_source < length file) ⊎ (longest_second_file < length text))
  large status other = never status 10 _ other (λ over. both_over file text over within)

  no_input : (F : Program → List ℕ → Type 0) → IsNotWellFormed file → AreInputsWithin file (Some text) × HasInput file text F → ⊥
  no_input F none h = no_source_input file text F h.1 none

  no_text : (F : Program → List ℕ → Type 0) → IsNoSchedule text → AreInputsWithin file (Some text) × HasInput file text F → ⊥
  no_text F none h = no_schedule_input file text F h.1 none

  apart : (F G : Program → List ℕ → Type 0) → ((P : Program) (s : List ℕ) → F P s → G P s → ⊥) → HasInput file text F → AreInputsWithin file (Some text) × HasInput file text G → ⊥
  apart F G not f g = inputs_apart file text F G not f g.1

  exact_refused : IsNotWellFormed file → IsExactVerdict file text 1
  exact_refused f = record {
    too_large = large 1 (λ e. omega (arith, e));
    refused = exactly 1 _ (within, f);
    no_schedule = never 1 3 _ (λ e. omega (arith, e)) (λ g. f g.1.0 g.1.1 g.1.2);
    stopped = never 1 4 _ (λ e. omega (arith, e)) (no_input IsStuck f);
    inside = never 1 5 _ (λ e. omega (arith, e)) (no_input LeavesCallOpen f);
    kept = undone 1 0 _ (λ e. omega (arith, e)) (no_input IsKeptEnd f);
    broken = undone 1 2 _ (λ e. omega (arith, e)) (no_input IsWitnessOf f);
    undecided = λ e. absurd (omega (arith, e));
  }

  exact_no_schedule : IsWellFormedText file → IsNoSchedule text → IsExactVerdict file text 3
  exact_no_schedule source f = record {
    too_large = large 3 (λ e. omega (arith, e));
    refused = never 3 1 _ (λ e. omega (arith, e)) (λ g. g.1 source.0 source.1 source.2);
    no_schedule = exactly 3 _ (within, source, f);
    stopped = never 3 4 _ (λ e. omega (arith, e)) (no_text IsStuck f);
    inside = never 3 5 _ (λ e. omega (arith, e)) (no_text LeavesCallOpen f);
    kept = undone 3 0 _ (λ e. omega (arith, e)) (no_text IsKeptEnd f);
    broken = undone 3 2 _ (λ e. omega (arith, e)) (no_text IsWitnessOf f);
    undecided = λ e. absurd (omega (arith, e));
  }

  -- of a source and a schedule: it is neither refused nor the text of none
  not_refused : (status : ℕ) (F : Program → List ℕ → Type 0) → HasInput file text F → (status ≡ 1 → ⊥) → Exactly status 1 (AreInputsWithin file (Some text) × IsNotWellFormed file)
  not_refused status F h other = never status 1 _ other (λ g. no_source_input file text F h g.1)

  is_schedule : (status : ℕ) (F : Program → List ℕ → Type 0) → HasInput file text F → (status ≡ 3 → ⊥) → Exactly status 3 (AreInputsWithin file (Some text) × IsWellFormedText file × IsNoSchedule text)
  is_schedule status F h other = never status 3 _ other (λ g. no_schedule_input file text F h g.2)

  exact_stopped : HasInput file text IsStuck → IsExactVerdict file text 4
  exact_stopped f = record {
    too_large = large 4 (λ e. omega (arith, e));
    refused = not_refused 4 IsStuck f (λ e. omega (arith, e));
    no_schedule = is_schedule 4 IsStuck f (λ e. omega (arith, e));
    stopped = exactly 4 _ (within, f);
    inside = never 4 5 _ (λ e. omega (arith, e)) (apart IsStuck LeavesCallOpen stuck_or_inside f);
    kept = undone 4 0 _ (λ e. omega (arith, e)) (apart IsStuck IsKeptEnd (λ P s a b. stuck_or_outside P s a (kept_outside P s b)) f);
    broken = undone 4 2 _ (λ e. omega (arith, e)) (apart IsStuck IsWitnessOf (λ P s a b. stuck_or_outside P s a (witness_outside P s b)) f);
    undecided = λ e. absurd (omega (arith, e));
  }

  exact_inside : HasInput file text LeavesCallOpen → IsExactVerdict file text 5
  exact_inside f = record {
    too_large = large 5 (λ e. omega (arith, e));
    refused = not_refused 5 LeavesCallOpen f (λ e. omega (arith, e));
    no_schedule = is_schedule 5 LeavesCallOpen f (λ e. omega (arith, e));
    stopped = never 5 4 _ (λ e. omega (arith, e)) (apart LeavesCallOpen IsStuck (λ P s a b. stuck_or_inside P s b a) f);
    inside = exactly 5 _ (within, f);
    kept = undone 5 0 _ (λ e. omega (arith, e)) (apart LeavesCallOpen IsKeptEnd (λ P s a b. inside_or_outside P s a (kept_outside P s b)) f);
    broken = undone 5 2 _ (λ e. omega (arith, e)) (apart LeavesCallOpen IsWitnessOf (λ P s a b. inside_or_outside P s a (witness_outside P s b)) f);
    undecided = λ e. absurd (omega (arith, e));
  }

  -- of a schedule that ends with no thread inside an atomic call: it doesn't stop, nor end inside
  runs_whole : (status : ℕ) (F : Program → List ℕ → Type 0) → ((P : Program) (s : List ℕ) → F P s → EndsOutside P s) → HasInput file text F → (status ≡ 4 → ⊥)
      → Exactly status 4 (AreInputsWithin file (Some text) × HasInput file text IsStuck)
  runs_whole status F out h other = never status 4 _ other (apart F IsStuck (λ P s a b. stuck_or_outside P s b (out P s a)) h)

  ends_outside : (status : ℕ) (F : Program → List ℕ → Type 0) → ((P : Program) (s : List ℕ) → F P s → EndsOutside P s) → HasInput file text F → (status ≡ 5 → ⊥)
      → Exactly status 5 (AreInputsWithin file (Some text) × HasInput file text LeavesCallOpen)
  ends_outside status F out h other = never status 5 _ other (apart F LeavesCallOpen (λ P s a b. inside_or_outside P s b (out P s a)) h)

  exact_kept : HasInput file text IsKeptEnd → IsExactVerdict file text 0
  exact_kept f = record {
    too_large = large 0 (λ e. omega (arith, e));
    refused = not_refused 0 IsKeptEnd f (λ e. omega (arith, e));
    no_schedule = is_schedule 0 IsKeptEnd f (λ e. omega (arith, e));
    stopped = runs_whole 0 IsKeptEnd kept_outside f (λ e. omega (arith, e));
    inside = ends_outside 0 IsKeptEnd kept_outside f (λ e. omega (arith, e));
    kept = decided 0 _ (within, f);
    broken = undone 0 2 _ (λ e. omega (arith, e)) (apart IsKeptEnd IsWitnessOf kept_or_witness f);
    undecided = λ e. absurd (omega (arith, e));
  }

  exact_broken : HasInput file text IsWitnessOf → IsExactVerdict file text 2
  exact_broken f = record {
    too_large = large 2 (λ e. omega (arith, e));
    refused = not_refused 2 IsWitnessOf f (λ e. omega (arith, e));
    no_schedule = is_schedule 2 IsWitnessOf f (λ e. omega (arith, e));
    stopped = runs_whole 2 IsWitnessOf witness_outside f (λ e. omega (arith, e));
    inside = ends_outside 2 IsWitnessOf witness_outside f (λ e. omega (arith, e));
    kept = undone 2 0 _ (λ e. omega (arith, e)) (apart IsWitnessOf IsKeptEnd (λ P s a b. kept_or_witness P s b a) f);
    broken = decided 2 _ (within, f);
    undecided = λ e. absurd (omega (arith, e));
  }

  exact_undecided : HasInput file text EndsOutside → IsExactVerdict file text 16
  exact_undecided f = record {
    too_large = large 16 (λ e. omega (arith, e));
    refused = not_refused 16 EndsOutside f (λ e. omega (arith, e));
    no_schedule = is_schedule 16 EndsOutside f (λ e. omega (arith, e));
    stopped = runs_whole 16 EndsOutside (λ P s a. a) f (λ e. omega (arith, e));
    inside = ends_outside 16 EndsOutside (λ P s a. a) f (λ e. omega (arith, e));
    kept = open_end 0 _ (λ e. omega (arith, e));
    broken = open_end 2 _ (λ e. omega (arith, e));
    undecided = λ e. (within, f);
  }

  exact_end : (ended : Ending) (line : List ℕ) (P : Program) (s : List ℕ)
      → NoOrder P s ended line → ((G : Program → List ℕ → Type 0) → G P s → HasInput file text G) → IsExactVerdict file text (code_of ended)
  exact_end _ _ P s (no_run {ending = ended} {line = line} is) input =
      let r = refused_run P s ended line is in subst (λ e. IsExactVerdict file text (code_of e)) (sym r.0) (exact_stopped (input IsStuck r.1))
  exact_end _ _ P s (open_call q t e stands) input = exact_inside (input LeavesCallOpen (q, e, ap is_some stands))

  exact_refuses : (ended : Ending) (line : List ℕ) → RefusesInput file text ended line → IsExactVerdict file text (code_of ended)
  exact_refuses _ _ (no_source {ending = ended} {line = line} is) = subst (λ e. IsExactVerdict file text (code_of e)) (sym (no_source_ends file ended line is)) (exact_refused (no_source_is_none file ended line is))
  exact_refuses _ _ (no_schedule {ending = ended} {line = line} tree P source is) =
      let r = refused_text text ended line is in subst (λ e. IsExactVerdict file text (code_of e)) (sym r.0) (exact_no_schedule (tree, P, source) r.1)
  exact_refuses _ _ (no_end {ending = ended} {line = line} tree P s input is) = exact_end ended line P s is (λ G g. (tree, P, s, input, g))

  exact_told : (P : Program) (s : List ℕ) (status : ℕ) (out : List ℕ) → IsToldOfSchedule P s status out → ((G : Program → List ℕ → Type 0) → G P s → HasInput file text G) → IsExactVerdict file text status
  exact_told P s _ _ (kept q r ends order spells) input = exact_kept (input IsKeptEnd (q, ends, (r, order)))
  exact_told P s _ _ (broken by full is none) input = exact_broken (input IsWitnessOf (witness_of P s by full is))
  exact_told P s _ _ (undecided q ends) input = exact_undecided (input EndsOutside (q, ends.runs, ends.closed))

  pub exact_answered : (status : ℕ) (out : List ℕ) → AnswersSchedule file text status out → IsExactVerdict file text status
  exact_answered _ _ (refused {ending = ended} {line = line} is) = exact_refuses ended line is
  exact_answered _ _ (told {status = status} {out = out} tree P s input is) = exact_told P s status out is (λ G g. (tree, P, s, input, g))

-- Statuses of refusals, and of what is told.

order_low : (P : Program) (s : List ℕ) (ended : Ending) (line : List ℕ) → NoOrder P s ended line → code_of ended ≤ 5
order_low P s _ _ (no_run {ending = ended} {line = line} is) = subst (λ e. code_of e ≤ 5) (sym (refused_run P s ended line is).0) (omega arith)
order_low P s _ _ (open_call q t e stands) = omega arith

refuses_low : (file text : List ℕ) (ended : Ending) (line : List ℕ) → RefusesInput file text ended line → code_of ended ≤ 5
refuses_low file text _ _ (no_source {ending = ended} {line = line} is) = subst (λ e. code_of e ≤ 5) (sym (no_source_ends file ended line is)) (omega arith)
refuses_low file text _ _ (no_schedule {ending = ended} {line = line} tree P source is) = subst (λ e. code_of e ≤ 5) (sym (refused_text text ended line is).0) (omega arith)
refuses_low file text _ _ (no_end {ending = ended} {line = line} tree P s input is) = order_low P s ended line is

refuses_not_two : (P : Program) (s : List ℕ) (ended : Ending) (line : List ℕ) → NoOrder P s ended line → code_of ended ≡ 2 → ⊥
refuses_not_two P s _ _ (no_run {ending = ended} {line = line} is) two = let e : 4 ≡ 2 = sym (ap code_of (refused_run P s ended line is).0) ∙ two in omega (arith, e)
refuses_not_two P s _ _ (open_call q t e stands) two = omega (arith, two)

-- status 2 is none of a refusal
pub refuses_other : (file text : List ℕ) (ended : Ending) (line : List ℕ) → RefusesInput file text ended line → code_of ended ≡ 2 → ⊥
refuses_other file text _ _ (no_source {ending = ended} {line = line} is) two = let e : 1 ≡ 2 = sym (ap code_of (no_source_ends file ended line is)) ∙ two in omega (arith, e)
refuses_other file text _ _ (no_schedule {ending = ended} {line = line} tree P source is) two = let e : 3 ≡ 2 = sym (ap code_of (refused_text text ended line is).0) ∙ two in omega (arith, e)
refuses_other file text _ _ (no_end {ending = ended} {line = line} tree P s input is) two = refuses_not_two P s ended line is two

told_apart : (P : Program) (s : List ℕ) (status : ℕ) (out : List ℕ) → IsToldOfSchedule P s status out → (6 ≤ status) × (status ≤ 10) → ⊥
told_apart P s _ _ (kept q r ends order spells) between = omega (arith, between.0)
told_apart P s _ _ (broken by full is none) between = omega (arith, between.0)
told_apart P s _ _ (undecided q ends) between = omega (arith, between.1)

pub verdict_between : (file text : List ℕ) (status : ℕ) (out : List ℕ) → AnswersSchedule file text status out → (6 ≤ status) × (status ≤ 10) → ⊥
verdict_between file text _ _ (refused {ending = ended} {line = line} is) between = let low = refuses_low file text ended line is in omega (arith, low, between.0)
verdict_between file text _ _ (told {status = status} {out = out} tree P s input is) between = told_apart P s status out is between

pub exact_over : (file text : List ℕ) → (longest_source < length file) ⊎ (longest_second_file < length text) → IsExactVerdict file text 10
exact_over file text over = record {
  too_large = exactly 10 _ over;
  refused = never 10 1 _ (λ e. omega (arith, e)) (λ g. both_over file text over g.0);
  no_schedule = never 10 3 _ (λ e. omega (arith, e)) (λ g. both_over file text over g.0);
  stopped = never 10 4 _ (λ e. omega (arith, e)) (λ g. both_over file text over g.0);
  inside = never 10 5 _ (λ e. omega (arith, e)) (λ g. both_over file text over g.0);
  kept = undone 10 0 _ (λ e. omega (arith, e)) (λ g. both_over file text over g.0);
  broken = undone 10 2 _ (λ e. omega (arith, e)) (λ g. both_over file text over g.0);
  undecided = λ e. absurd (omega (arith, e));
}

pub yields_undone : (result status : ℕ) (fact : Type 0) → IsTroubleStatus result → ((6 ≤ status) × (status ≤ 8) → ⊥) → Decides result status fact
yields_undone result status fact y out = record { only = λ e. absurd (out (subst (λ n. (6 ≤ n) × (n ≤ 8)) e (yield_range result y))); all = λ f. inr (inr y) }

pub verdict_yield : (file text : List ℕ) (result : ℕ) → IsTroubleStatus result → IsExactVerdict file text result
verdict_yield file text result y = record {
  too_large = yields_other result 10 _ y (λ r. omega (arith, r.1));
  refused = yields_other result 1 _ y (λ r. omega (arith, r.0));
  no_schedule = yields_other result 3 _ y (λ r. omega (arith, r.0));
  stopped = yields_other result 4 _ y (λ r. omega (arith, r.0));
  inside = yields_other result 5 _ y (λ r. omega (arith, r.0));
  kept = yields_undone result 0 _ y (λ r. omega (arith, r.0));
  broken = yields_undone result 2 _ y (λ r. omega (arith, r.0));
  undecided = λ e. absurd (let r = yield_range result y in omega (arith, r.1, e));
}
