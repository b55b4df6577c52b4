-- When it ends how, where no schedule is given; and for both.
use Rattle.std.proofs.Common.{◌≡◌, ℕ, ◌<◌, ◌≤◌, List, Option, Some, None, length, refl, sym, ap, subst, ◌∙◌, arith, inl, inr}
use Rattle.std.proofs.lemmas.Option.{same_Some, none-some}
use Rattle.lexer.specs.Limits.{longest_source}
use Rattle.sources.specs.Limits.{longest_second_file}
use Rattle.edge.specs.Said.{Exactly, IsTroubleStatus}
use Rattle.edge.proofs.Statuses.{yield_range}
use Rattle.schedule_commands.specs.Schedules.{IsWellFormedText}
use Rattle.sources.specs.declared.refusal.Ending.{Ending}
use Rattle.sources.specs.Checking.{NoSource}
use Rattle.sources.specs.Facts.{IsNotWellFormed}
use Rattle.sources.specs.Refusals.{code_of}
use Rattle.sources.proofs.Apart.{no_source_is_none, no_source_ends}
use Rattle.sources.proofs.Exact.{exactly, never, yields_other}
use Rattle.witness_commands.specs.Answers.{AnswersSearch, no_program, found, nothing, WitnessAnswer, HasWitness}
use Rattle.witness_commands.specs.Reading.{AreInputsWithin}
use Rattle.witness_commands.specs.Written.{BelongsToFiles, source_large, schedule_large, answered, IsExactSearch, IsExact}
use Rattle.witness_commands.proofs.Endings.{witness_of, undone, decided, open_end, exact_over, exact_answered, verdict_between, verdict_yield, yields_undone}

witness_text_source : (file : List ℕ) → HasWitness file → IsWellFormedText file
witness_text_source file w = (w.0, w.1, w.3)

module _ (file : List ℕ) (within : AreInputsWithin file None) where
  large : (status : ℕ) → (status ≡ 10 → ⊥) → Exactly status 10 (longest_source < length file)
  large status other = never status 10 _ other (λ over. omega (arith, over, within.0))

  search_refused : IsNotWellFormed file → IsExactSearch file 1
  search_refused f = record {
    too_large = large 1 (λ e. omega (arith, e));
    refused = exactly 1 _ (within, f);
    found = undone 1 2 _ (λ e. omega (arith, e)) (λ g. f g.1.0 g.1.1 g.1.3);
    searched = λ g. absurd (f g.1.0 g.1.1 g.1.2);
    nothing = λ e. absurd (omega (arith, e));
  }

  -- of a well-formed source
  not_refused : (status : ℕ) → IsWellFormedText file → (status ≡ 1 → ⊥) → Exactly status 1 (AreInputsWithin file None × IsNotWellFormed file)
  not_refused status is other = never status 1 _ other (λ g. g.1 is.0 is.1 is.2)

  search_found : HasWitness file → IsExactSearch file 2
  search_found w = record {
    too_large = large 2 (λ e. omega (arith, e));
    refused = not_refused 2 (witness_text_source file w) (λ e. omega (arith, e));
    found = decided 2 _ (within, w);
    searched = λ g. inl refl;
    nothing = λ e. absurd (omega (arith, e));
  }

  search_nothing : IsWellFormedText file → IsExactSearch file 16
  search_nothing is = record {
    too_large = large 16 (λ e. omega (arith, e));
    refused = not_refused 16 is (λ e. omega (arith, e));
    found = open_end 2 _ (λ e. omega (arith, e));
    searched = λ g. inr (inl refl);
    nothing = λ e. (within, is);
  }

  search_answered : (status : ℕ) (out : List ℕ) → AnswersSearch file status out → IsExactSearch file status
  search_answered _ _ (no_program {ending = ended} {line = line} is) =
      subst (λ e. IsExactSearch file (code_of e)) (sym (no_source_ends file ended line is)) (search_refused (no_source_is_none file ended line is))
  search_answered _ _ (found tree P s by full source is spells none) = search_found (tree, P, s, source, witness_of P s by full is)
  search_answered _ _ (nothing tree P tried source) = search_nothing (tree, P, source)

search_over : (file : List ℕ) → longest_source < length file → IsExactSearch file 10
search_over file over = record {
  too_large = exactly 10 _ over;
  refused = never 10 1 _ (λ e. omega (arith, e)) (λ g. omega (arith, over, g.0.0));
  found = undone 10 2 _ (λ e. omega (arith, e)) (λ g. omega (arith, over, g.0.0));
  searched = λ g. absurd (omega (arith, over, g.0.0));
  nothing = λ e. absurd (omega (arith, e));
}

search_yield : (file : List ℕ) (result : ℕ) → IsTroubleStatus result → IsExactSearch file result
search_yield file result y = record {
  too_large = yields_other result 10 _ y (λ r. omega (arith, r.1));
  refused = yields_other result 1 _ y (λ r. omega (arith, r.0));
  found = yields_undone result 2 _ y (λ r. omega (arith, r.0));
  searched = λ g. inr (inr y);
  nothing = λ e. absurd (let r = yield_range result y in omega (arith, r.1, e));
}

-- status 2 is none of a refusal
pub source_other : (file : List ℕ) (ended : Ending) (line : List ℕ) → NoSource file ended line → code_of ended ≡ 2 → ⊥
source_other file ended line is two = let e : 1 ≡ 2 = sym (ap code_of (no_source_ends file ended line is)) ∙ two in omega (arith, e)

search_between : (file : List ℕ) (status : ℕ) (out : List ℕ) → AnswersSearch file status out → (6 ≤ status) × (status ≤ 10) → ⊥
search_between file _ _ (no_program {ending = ended} {line = line} is) between =
    let low : code_of ended ≤ 5 = subst (λ e. code_of e ≤ 5) (sym (no_source_ends file ended line is)) (omega arith) in omega (arith, low, between.0)
search_between file _ _ (found tree P s by full source is spells none) between = omega (arith, between.0)
search_between file _ _ (nothing tree P tried source) between = omega (arith, between.1)

-- For both.

pub not_between : (file : List ℕ) (text : Option (List ℕ)) (status : ℕ) (out : List ℕ) → WitnessAnswer file text status out → (6 ≤ status) × (status ≤ 10) → ⊥
not_between file (Some text) status out is between = verdict_between file text status out is between
not_between file None status out is between = search_between file status out is between

pub exact_answer : (source : List ℕ) (schedule : Option (List ℕ)) (file : List ℕ) (text : Option (List ℕ)) (status : ℕ) (out : List ℕ) → BelongsToFiles source schedule file text status out → IsExact file text status
exact_answer source schedule file (Some text) _ _ (source_large over) = exact_over file text (inl over)
exact_answer source schedule file (Some text) _ _ (schedule_large name bytes named is small over) =
    exact_over file text (inr (subst (λ b. longest_second_file < length b) (sym (same_Some text bytes is)) over))
exact_answer source schedule file (Some text) _ _ (answered {status = status} {out = out} within is) = exact_answered file text within status out is
exact_answer source schedule file None _ _ (source_large over) = search_over file over
exact_answer source schedule file None _ _ (schedule_large name bytes named is small over) = absurd (none-some bytes is)
exact_answer source schedule file None _ _ (answered {status = status} {out = out} within is) = search_answered file within status out is

pub exact_yield : (file : List ℕ) (text : Option (List ℕ)) (result : ℕ) → IsTroubleStatus result → IsExact file text result
exact_yield file (Some text) result y = verdict_yield file text result y
exact_yield file None result y = search_yield file result y
