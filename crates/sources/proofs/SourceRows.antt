-- Refusals of a source, and answers of the rows on it alone.
use Rattle.std.proofs.Common.{◌≡◌, ◌≤◌, ◌^◌, List, ℕ, Result, Err, MatchResult, map, length, arith, ap, sym, subst, ◌∙◌}
use Rattle.std.proofs.lemmas.List.{length-map}
use Rattle.classes.specs.Views.{table_data}
use Rattle.conditions.specs.Conditions.{cond_of}
use Rattle.conditions.specs.declared.tree.Tree.{Tree}
use Rattle.core_program.specs.Core.{Program}
use Rattle.core_program.specs.Typed.{IsTyped}
use Rattle.core_program.specs.Views.{program_of}
use Rattle.printer.specs.Printing.{canonical}
use Rattle.printer.specs.Reprinted.{ReadsBack}
use Rattle.syntax.specs.Trees.{ProgramTree}
use Rattle.sources.specs.declared.checking.Source.{Source}
use Rattle.sources.specs.declared.refusal.Ending.TheVariants.{Done}
use Rattle.sources.specs.declared.refusal.Refusal.{Refusal}
use Rattle.sources.specs.declared.refusal.SourceEnd.{SourceEnd}
use Rattle.sources.specs.Refusals.{IsRight, IsRightEnd, TellsEnd}
use Rattle.sources.specs.Programs.{IsProgram, NoProgram}
use Rattle.sources.specs.Checking.{NoSource, IsSourceOf}
use Rattle.sources.specs.Verdicts.{NoAccepted, no_source, IsShownLeast}
use Rattle.sources.proofs.Told.{right_of_more, right_end, more_refused}
use Rattle.sources.proofs.Verdicts.{well_formed_source, few_methods}
use Rattle.sources.specs.Check.{CheckAnswer, not_accepted, judged, report_from}
use Rattle.sources.specs.Print.{PrintAnswer, no_program, printed}

pub source_refused : (file : List ℕ) (r : Refusal) → IsRight (NoSource file) r → IsRight (CheckAnswer file) r
source_refused file r is = right_of_more (NoSource file) (CheckAnswer file) (λ ending line i. not_accepted (no_source i)) r is

pub rules_refused : (file : List ℕ) (r : Refusal) → IsRight (NoAccepted file) r → IsRight (CheckAnswer file) r
rules_refused file r is = right_of_more (NoAccepted file) (CheckAnswer file) (λ ending line i. not_accepted i) r is

pub program_refused : (file : List ℕ) (e : SourceEnd) (r : Refusal) → IsRightEnd (NoProgram file) e → TellsEnd e r → IsRight (PrintAnswer file) r
program_refused file e r is tells = right_of_more (NoProgram file) (PrintAnswer file) (λ ending line i. no_program i) r (right_end (NoProgram file) e r is tells)

-- the exit of a refusal of the rules
pub judged_refusal : {T : Type 0} (file : List ℕ) (Q : T → Type 0) (r : Result T Refusal) (e its : Refusal) → r ≡ Err e → e ≡ its → IsRight (NoAccepted file) its → MatchResult r Q (IsRight (CheckAnswer file))
judged_refusal file Q r e its is same = more_refused (NoAccepted file) (CheckAnswer file) Q r e its is same (λ ending line i. not_accepted i)

-- an accepted source and its trees are judged
pub judged_text : (file : List ℕ) (source : Source) (trees : List Tree) (text : List ℕ) → IsSourceOf file source → IsShownLeast (program_of source.program) (map cond_of trees)
    → text ≡ report_from (table_data source.table) 0 (map cond_of trees) → CheckAnswer file Done text
judged_text file source trees text is least e =
    subst (CheckAnswer file Done) (sym (e ∙ ap (λ t. report_from t 0 (map cond_of trees)) is.1.table))
    (judged is.0 (program_of source.program) (map cond_of trees) (well_formed_source file is.0 source is.1) least)

pub few_trees : (P : Program) (trees : List Tree) → IsTyped P → IsShownLeast P (map cond_of trees) → length trees ≤ 2 ^ 32
few_trees P trees typed least = let few = few_methods P typed in let count = sym (length-map trees cond_of) ∙ least.shown.count in omega (arith, few, count)

-- a tree and its canonical text are printed
pub printed_text : (file text : List ℕ) (tree : ProgramTree) (out : List ℕ) → text ≡ file → IsProgram text tree → out ≡ canonical tree → ReadsBack (canonical tree) tree → PrintAnswer file Done out
printed_text file text tree out same is e again = subst (PrintAnswer file Done) (sym e) (printed tree (subst (λ f. IsProgram f tree) same is) again)
