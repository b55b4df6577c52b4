-- What is answered to the bytes of a file, from what the stages give.
use Rattle.std.proofs.Common.{◌≡◌, ◌≤◌, inl, inr, ℕ, List, Some, length, map, ap, subst, sym, ◌∙◌, arith}
use Rattle.std.proofs.lemmas.List.{length-map}
use Rattle.std.proofs.lemmas.Option.{slice_get_cases, slice_get_within}
use Rattle.classes.specs.Table.{TableData, table_of}
use Rattle.conditions.specs.Conditions.{Cond}
use Rattle.core_program.specs.Core.{Program}
use Rattle.core_program.specs.Typed.{IsTyped}
use Rattle.core_program.specs.Views.{program_of}
use Rattle.typing.specs.Programs.{core_of}
use Rattle.explain.specs.Shown.{shown}
use Rattle.lexer.specs.declared.places.Place.{Place}
use Rattle.lexer.specs.Places.{line_of}
use Rattle.places.proofs.InPrograms.{method_made}
use Rattle.places.specs.Sources.{methods_in}
use Rattle.rules.specs.Near.{rel_of}
use Rattle.report.specs.declared.source_fault.SourceFault.{SourceFault}
use Rattle.report.specs.SourceFaults.{fault_words}
use Rattle.sources.specs.declared.checking.Source.{Source}
use Rattle.sources.specs.declared.refusal.Ending.{Ending}
use Rattle.sources.specs.declared.refusal.Ending.TheVariants.{Refused}
use Rattle.sources.specs.Checking.{IsSource, NoSource}
use Rattle.sources.specs.Refusals.{IsRightFault}
use Rattle.sources.proofs.Verdicts.{well_formed_source}
use Rattle.syntax.specs.Trees.{MemberTree, MethodM, ProgramTree}
use Rattle.explain_commands.specs.declared.words.Order.{Order}
use Rattle.explain_commands.specs.Answers.{ExplainAnswer, judged, IsJudgedProgram, IsText, pages_of}
use Rattle.explain_commands.specs.Explained.{page_of}
use Rattle.explain_commands.specs.Faults.{error_line, IsSourceFaultLine}
use Rattle.explain_commands.specs.Least.{IsLeastJudged}
use Rattle.explain_commands.specs.Orders.{IsProgramVerdict, ending_in}
use Rattle.explain_commands.proofs.Bounds.{ends_for, verdict_for}

-- each method of the core program is one of the tree
pub methods_there : (tree : ProgramTree) (P : Program) → core_of tree ≡ Some P → length P.methods ≤ length (methods_in tree)
methods_there tree P core = elim (slice_get_cases P.methods (length (methods_in tree))).1 [
  | inl there ↦
      let made = method_made tree P core (length (methods_in tree)) there.0 there.2 in
      let below = slice_get_within (methods_in tree) (length (methods_in tree)) made.m made.is in
      absurd (omega (arith, below))
  | inr past ↦ past.0
]

-- the methods that were found in the tree are as many
pub found_there : (tree : ProgramTree) (P : Program) (members : List MemberTree) (n : ℕ) → core_of tree ≡ Some P → members ≡ map MethodM (methods_in tree) → n ≡ length members → length P.methods ≤ n
found_there tree P members n core same count =
    let there = methods_there tree P core in
    let long : length members ≡ length (methods_in tree) = ap length same ∙ length-map (methods_in tree) MethodM in
    omega (arith, there, long, count)

-- the text is the one that belongs to a judged source
pub judged_text : (order : Order) (name : List ℕ) (tree : ProgramTree) (file : List ℕ) (source : Source) (trees : List Cond) (declared ending : Ending) (text : List ℕ) (table : TableData) (members : List MemberTree)
    → IsTyped (program_of source.program) → IsLeastJudged (program_of source.program) source.sets trees declared → ending ≡ ending_in order (program_of source.program) (shown trees) declared → table ≡ table_of tree → members ≡ map MethodM (methods_in tree)
    → IsText order (program_of source.program) (rel_of source.sets) (shown trees) (page_of name file table members) text
    → IsJudgedProgram order (program_of source.program) (pages_of name file tree) ending text
judged_text order name tree file source trees declared ending text table members typed least ends same found is = record {
  sets = source.sets;
  assignment = shown trees;
  typed = typed;
  least = least.least;
  ending_is = ends ∙ ends_for order (program_of source.program) (shown trees) declared least.ending_is;
  verdict = subst (IsProgramVerdict order (program_of source.program)) (sym ends) (verdict_for order (program_of source.program) source.sets (shown trees) declared typed least.least least.verdict);
  text_is = subst (λ t. IsText order (program_of source.program) (rel_of source.sets) (shown trees) (page_of name file t (map MethodM (methods_in tree))) text) same
      (subst (λ ms. IsText order (program_of source.program) (rel_of source.sets) (shown trees) (page_of name file table ms) text) found is);
}

-- what is said of a well-formed source
pub source_answer : (order : Order) (name file : List ℕ) (tree : ProgramTree) (source : Source) (ending : Ending) (text : List ℕ) → IsSource file tree source
    → IsJudgedProgram order (program_of source.program) (pages_of name file tree) ending text → ExplainAnswer order name file ending text
source_answer order name file tree source ending text is j = judged tree (program_of source.program) (well_formed_source file tree source is) j

-- what is written for a refused source
pub fault_told : (name file : List ℕ) (place : Place) (fault : SourceFault) (out : List ℕ) → IsRightFault (NoSource file) place fault → out ≡ error_line name place.line place.column (fault_words fault)
    → IsSourceFaultLine name file Refused out
fault_told name file place fault out is same = record {
  text = is.text;
  at = is.at;
  kind = fault_words fault;
  refused = is.belongs;
  line_is = same ∙ ap (λ l. error_line name l place.column (fault_words fault)) is.line ∙ ap (λ k. error_line name (line_of is.text is.at) k (fault_words fault)) is.column;
}
