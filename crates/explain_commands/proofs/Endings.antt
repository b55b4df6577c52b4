-- When it ends how.
use Rattle.std.proofs.Common.{ℕ, ◌<◌, ◌≤◌, List, length, sym, subst, arith}
use Rattle.lexer.specs.Limits.{longest_source}
use Rattle.core_program.specs.Core.{Program}
use Rattle.edge.specs.Said.{Exactly, IsTroubleStatus}
use Rattle.sources.specs.declared.refusal.Ending.{Ending}
use Rattle.sources.specs.declared.refusal.Ending.TheVariants.{Done, Refused, Inadmissible, NoSchedule, Stopped, Open, BookRefused, NothingToBlame, BlameRefused, LevelsRefused, CallTooDeep}
use Rattle.sources.specs.Checking.{IsWellFormedSource}
use Rattle.sources.specs.Facts.{IsNotWellFormed}
use Rattle.sources.specs.Refusals.{code_of}
use Rattle.sources.proofs.Apart.{no_source_is_none, no_source_ends, same_core}
use Rattle.sources.proofs.Exact.{exactly, never, yields_other}
use Rattle.syntax.specs.Trees.{ProgramTree}
use Rattle.explain_commands.specs.declared.words.Order.{Order}
use Rattle.explain_commands.specs.Answers.{ExplainAnswer, no_source, judged}
use Rattle.explain_commands.specs.Orders.{IsAcceptedFor, IsAcceptedSourceFor, IsProgramVerdict, IsRefusedSourceFor}
use Rattle.explain_commands.specs.Written.{BelongsToFile, too_large, ended, IsExactStatusOfFile}

-- what an ending says of a file
abbrev pub StatusFact : Order → (file : List ℕ) → Ending → Type 0
StatusFact order file Refused = IsNotWellFormed file
StatusFact order file Inadmissible = IsRefusedSourceFor order file
StatusFact order file Done = IsAcceptedSourceFor order file
StatusFact order file _ = ⊥

-- a source that is accepted isn't refused
accepted_or_refused : (order : Order) (file : List ℕ) → IsAcceptedSourceFor order file → IsRefusedSourceFor order file → ⊥
accepted_or_refused order file a n = n.3 (subst (IsAcceptedFor order) (same_core file a.0 n.0 a.1 n.1 a.2.has_core n.2.has_core) a.3)

verdict_fact : (order : Order) (file : List ℕ) (tree : ProgramTree) (P : Program) (ending : Ending) → IsWellFormedSource file tree P → IsProgramVerdict order P ending → StatusFact order file ending
verdict_fact order file tree P Done is verdict = (tree, P, is, verdict)
verdict_fact order file tree P Inadmissible is verdict = (tree, P, is, verdict)
verdict_fact order file tree P Refused is verdict = absurd verdict
verdict_fact order file tree P NoSchedule is verdict = verdict
verdict_fact order file tree P Stopped is verdict = verdict
verdict_fact order file tree P Open is verdict = verdict
verdict_fact order file tree P BookRefused is verdict = verdict
verdict_fact order file tree P NothingToBlame is verdict = verdict
verdict_fact order file tree P BlameRefused is verdict = verdict
verdict_fact order file tree P LevelsRefused is verdict = verdict
verdict_fact order file tree P CallTooDeep is verdict = verdict

-- what an answer says of the file
pub caused : (order : Order) (name file : List ℕ) (ending : Ending) (text : List ℕ) → ExplainAnswer order name file ending text → StatusFact order file ending
caused order name file _ _ (no_source {ending = ending} {line = line} is) =
    subst (StatusFact order file) (sym (no_source_ends file ending _ is.refused)) (no_source_is_none file ending _ is.refused)
caused order name file _ _ (judged {ending = ending} {text = text} tree P is j) = verdict_fact order file tree P ending is j.verdict

-- the statuses of such endings
pub low_code : (order : Order) (file : List ℕ) (ending : Ending) → StatusFact order file ending → code_of ending ≤ 2
low_code order file Done f = omega arith
low_code order file Refused f = omega arith
low_code order file Inadmissible f = omega arith
low_code order file NoSchedule f = absurd f
low_code order file Stopped f = absurd f
low_code order file Open f = absurd f
low_code order file BookRefused f = absurd f
low_code order file NothingToBlame f = absurd f
low_code order file BlameRefused f = absurd f
low_code order file LevelsRefused f = absurd f
low_code order file CallTooDeep f = absurd f

over_or_within : (n : ℕ) → longest_source < n → n ≤ longest_source → ⊥
over_or_within n over within = omega (arith, over, within)

module _ (file : List ℕ) (within : length file ≤ longest_source) where
  not_over : (status : ℕ) → status ≤ 2 → Exactly status 10 (longest_source < length file)
  not_over status low = never status 10 _ (λ e. omega (arith, low, e)) (λ over. over_or_within (length file) over within)

  exact_ending : (order : Order) (ending : Ending) → StatusFact order file ending → IsExactStatusOfFile order file (code_of ending)
  exact_ending order Done f = record {
    too_large = not_over 0 (omega arith);
    refused = never 0 1 _ (λ e. omega (arith, e)) (λ g. g.1 f.0 f.1 f.2);
    inadmissible = never 0 2 _ (λ e. omega (arith, e)) (λ g. accepted_or_refused order file f g.1);
    accepted = exactly 0 _ (within, f);
  }
  exact_ending order Refused f = record {
    too_large = not_over 1 (omega arith);
    refused = exactly 1 _ (within, f);
    inadmissible = never 1 2 _ (λ e. omega (arith, e)) (λ g. f g.1.0 g.1.1 g.1.2);
    accepted = never 1 0 _ (λ e. omega (arith, e)) (λ g. f g.1.0 g.1.1 g.1.2);
  }
  exact_ending order Inadmissible f = record {
    too_large = not_over 2 (omega arith);
    refused = never 2 1 _ (λ e. omega (arith, e)) (λ g. g.1 f.0 f.1 f.2);
    inadmissible = exactly 2 _ (within, f);
    accepted = never 2 0 _ (λ e. omega (arith, e)) (λ g. accepted_or_refused order file g.1 f);
  }
  exact_ending order NoSchedule f = absurd f
  exact_ending order Stopped f = absurd f
  exact_ending order Open f = absurd f
  exact_ending order BookRefused f = absurd f
  exact_ending order NothingToBlame f = absurd f
  exact_ending order BlameRefused f = absurd f
  exact_ending order LevelsRefused f = absurd f
  exact_ending order CallTooDeep f = absurd f

pub exact_answer : (order : Order) (name file : List ℕ) (status : ℕ) (text : List ℕ) → BelongsToFile order name file status text → IsExactStatusOfFile order file status
exact_answer order name file _ _ (too_large over) = record {
  too_large = exactly 10 _ over;
  refused = never 10 1 _ (λ e. omega (arith, e)) (λ g. over_or_within (length file) over g.0);
  inadmissible = never 10 2 _ (λ e. omega (arith, e)) (λ g. over_or_within (length file) over g.0);
  accepted = never 10 0 _ (λ e. omega (arith, e)) (λ g. over_or_within (length file) over g.0);
}
exact_answer order name file _ _ (ended ending text within answer) = exact_ending file within order ending (caused order name file ending text answer)

pub exact_yield : (order : Order) (file : List ℕ) (result : ℕ) → IsTroubleStatus result → IsExactStatusOfFile order file result
exact_yield order file result y = record {
  too_large = yields_other result 10 _ y (λ r. omega (arith, r.1));
  refused = yields_other result 1 _ y (λ r. omega (arith, r.0));
  inadmissible = yields_other result 2 _ y (λ r. omega (arith, r.0));
  accepted = yields_other result 0 _ y (λ r. omega (arith, r.0));
}
