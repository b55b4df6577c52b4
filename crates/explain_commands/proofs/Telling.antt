-- The sentence, from what the call answers.
use Rattle.std.proofs.Common.{◌≡◌, ◌≢◌, ◌↔◌, ℕ, ◌≤◌, List, [], ◌∷◌, ◌++◌, Some, length, refl, sym, subst, ap, ◌∙◌, arith, append-nil, inl, inr, ◌⊎◌}
use Rattle.std.specs.Io.KnownBytes.{Appends}
use Rattle.lexer.specs.Limits.{longest_source}
use Rattle.core_program.specs.Core.{Program}
use Rattle.edge.specs.Faults.{Rose}
use Rattle.explain_text.specs.Pages.{PageData}
use Rattle.edge.specs.Calls.{Call, HasNoFault}
use Rattle.paths.specs.Paths.{PathData}
use Rattle.rules.specs.Effect.{Assignment}
use Rattle.rules.specs.Near.{rel_of}
use Rattle.rules.specs.Search.{row_at}
use Rattle.sources.specs.declared.refusal.Ending.{Ending}
use Rattle.sources.specs.declared.refusal.Ending.TheVariants.{Done, Refused, Inadmissible, NoSchedule, Stopped, Open, BookRefused, NothingToBlame, BlameRefused, LevelsRefused, CallTooDeep}
use Rattle.sources.specs.Checking.{IsWellFormedSource}
use Rattle.sources.specs.Refusals.{code_of}
use Rattle.sources.proofs.Apart.{same_core, same_tree, no_source_is_none}
use Rattle.sources.specs.Files.{WritesText}
use Rattle.syntax.specs.Trees.{ProgramTree}
use Rattle.typing.specs.Programs.{core_of}
use Rattle.explain_commands.specs.declared.words.Order.{Order}
use Rattle.explain_commands.specs.declared.words.Order.TheVariants.{Why, All, Strict}
use Rattle.explain_commands.specs.Answers.{ExplainAnswer, Explains, IsText, no_source, judged, IsJudgedProgram, pages_of}
use Rattle.explain_text.proofs.Chosen.{all_counted}
use Rattle.explain_text.specs.Arrangements.{ArrangedData, arranged}
use Rattle.explain_commands.specs.Broken.{ending_for}
use Rattle.explain_commands.specs.Orders.{IsAcceptedFor, IsProgramVerdict, broken_for, explanations_for}
use Rattle.explain_commands.specs.Explained.{AreTexts, none, more}
use Rattle.explain_commands.specs.Sentence.{AsksToExplain, TellsBroken, ExplainsBroken}
use Rattle.explain_commands.proofs.Placing.{placed}
use Rattle.explain_commands.specs.Warned.{warnings_text}
use Rattle.explain_commands.specs.Written.{IsAskedFile, BelongsToFile, too_large, ended}
use Rattle.reasons.proofs.Fitted.{told_fits}
use Rattle.explain_commands.proofs.Bounds.{above_for, causes_for, circle_for, closed_for, exactly_for, grounded_for, named_for, nothing_for, reasons_for}

-- the status of how it ends where these methods break their bounds
two_or_none : (status : ℕ) (ms : List ℕ) → status ≡ code_of (ending_for ms) → ((status ≡ 2) ↔ (ms ≢ [])) × ((status ≡ 0) ↔ (ms ≡ []))
two_or_none status [] e = (((λ two. absurd (omega (arith, e, two))), (λ some. absurd (some refl))), ((λ zero. refl), (λ same. e)))
two_or_none status (m ∷ ms) e = (((λ two same. cc), (λ some. e)), ((λ zero. absurd (omega (arith, e, zero))), (λ same. absurd cc)))

-- the same, as the rules have it
as_rules : (order : Order) (P : Program) (status : ℕ) (ending : Ending) → status ≡ code_of ending → IsProgramVerdict order P ending
    → ((status ≡ 2) ↔ (IsAcceptedFor order P → ⊥)) × ((status ≡ 0) ↔ IsAcceptedFor order P)
as_rules order P status Done e v = (((λ two. absurd (omega (arith, e, two))), (λ not. absurd (not v))), ((λ zero. v), (λ is. e)))
as_rules order P status Inadmissible e v = (((λ two. v), (λ not. e)), ((λ zero. absurd (omega (arith, e, zero))), (λ is. absurd (v is))))
as_rules order P status Refused e v = absurd v
as_rules order P status NoSchedule e v = absurd v
as_rules order P status Stopped e v = absurd v
as_rules order P status Open e v = absurd v
as_rules order P status BookRefused e v = absurd v
as_rules order P status NothingToBlame e v = absurd v
as_rules order P status BlameRefused e v = absurd v
as_rules order P status LevelsRefused e v = absurd v
as_rules order P status CallTooDeep e v = absurd v

-- no explanations have no lines
no_lines : (P : Program) (rel : ℕ → List PathData) (A : Assignment) (pages : ℕ → PageData) (overs : ℕ → List ℕ) (xs : List ArrangedData) (text : List ℕ) → xs ≡ [] → AreTexts P rel A pages overs xs text → text ≡ []
no_lines P rel A pages overs _ _ e none = refl
no_lines P rel A pages overs _ _ e (more x xs text rest one others) = absurd cc

module _ (call : Call) (name file : List ℕ) where
  tells : (order : Order) (tree : ProgramTree) (P : Program) (ending : Ending) (whole text : List ℕ) → core_of tree ≡ Some P → (j : IsJudgedProgram order P (pages_of name file tree) ending whole)
      → Explains order P (rel_of j.sets) j.assignment (pages_of name file tree) text → call.status ≡ code_of ending
      → Appends call.written_before call.written_after (text ++ warnings_text order P (pages_of name file tree)) → TellsBroken order call name file tree P
  tells order tree P ending whole text core j explains status written =
      let overs = explains.overs in
      let grounds = explains.grounds in
      let founded = grounded_for P j.sets j.assignment overs j.typed j.least explains.are_overs order grounds explains.are_grounds in
      let by_list = two_or_none call.status (broken_for order P j.assignment) (status ∙ ap code_of j.ending_is) in
      let by_rules = as_rules order P call.status ending status j.verdict in
      record {
        sets = j.sets;
        assignment = j.assignment;
        least = j.least;
        overs = overs;
        are_overs = explains.are_overs;
        grounds = grounds;
        text = text;
        texts = explains.texts;
        written = written;
        counts = all_counted P (rel_of j.sets) (explanations_for order P (rel_of j.sets) j.assignment (row_at overs) grounds);
        methods = exactly_for P (rel_of j.sets) j.assignment (row_at overs) grounds order;
        above = above_for P j.sets j.assignment overs j.typed j.least explains.are_overs order grounds founded;
        reasons = reasons_for P j.sets j.assignment overs j.typed j.least explains.are_overs order grounds founded;
        closed = closed_for P (rel_of j.sets) j.assignment (row_at overs) grounds order;
        levels = founded.circles;
        circle = circle_for P j.sets j.assignment overs j.typed j.least explains.are_overs order grounds founded;
        causes = causes_for P j.sets j.assignment overs j.typed j.least explains.are_overs order grounds founded;
        finals = λ x c method is aliases lack fits. told_fits P (rel_of j.sets) j.assignment aliases x method is lack fits;
        places = λ x c method is v named. placed name file tree P core x.method method is v
            (named_for P j.sets j.assignment overs j.typed j.least explains.are_overs order grounds founded x c method is v named);
        refused = by_list.0;
        accepted = by_list.1;
        silent = λ zero. no_lines P (rel_of j.sets) j.assignment (pages_of name file tree) (row_at overs)
            (arranged P (rel_of j.sets) (explanations_for order P (rel_of j.sets) j.assignment (row_at overs) grounds)) text
            (ap (arranged P (rel_of j.sets)) (nothing_for P (rel_of j.sets) j.assignment (row_at overs) grounds order (by_list.1.0 zero))) explains.texts;
        inadmissible = by_rules.0;
        admissible = by_rules.1;
      }

  -- the tree and the program of the file are one
  same_source : (order : Order) (tree its : ProgramTree) (P Q : Program) → IsWellFormedSource file tree P → IsWellFormedSource file its Q → TellsBroken order call name file tree P
      → TellsBroken order call name file its Q
  same_source order tree its P Q is are t =
      subst (λ u. TellsBroken order call name file u Q) (same_tree file tree its is.has_core.program are.has_core.program)
      (subst (TellsBroken order call name file tree) (same_core file tree its P Q is.has_core are.has_core) t)

  -- the text of what is told: the lines of the explanations, and then the warnings
  explains_of : (order : Order) → AsksToExplain order → (P : Program) (rel : ℕ → List PathData) (A : Assignment) (pages : ℕ → PageData) (text : List ℕ) → IsText order P rel A pages text
      → (lines : List ℕ) × Explains order P rel A pages lines × (text ≡ lines ++ warnings_text order P pages)
  explains_of Why asks P rel A pages text is = (text, is, sym (append-nil text))
  explains_of All asks P rel A pages text is = absurd asks
  explains_of Strict asks P rel A pages text is = (is.lines, is.explains, is.whole)

  by_answer : (order : Order) → AsksToExplain order → (ending : Ending) (text : List ℕ) → ExplainAnswer order name file ending text → call.status ≡ code_of ending
      → Appends call.written_before call.written_after text → (tree : ProgramTree) (P : Program) → IsWellFormedSource file tree P → TellsBroken order call name file tree P
  by_answer order asks _ _ (no_source {ending = ending} {line = line} faulty) status written tree P is = absurd (no_source_is_none file ending _ faulty.refused tree P is)
  by_answer order asks _ _ (judged {ending = ending} {text = text} its Q are j) status written tree P is =
      let explains = explains_of order asks Q (rel_of j.sets) j.assignment (pages_of name file its) text j.text_is in
      same_source order its tree Q P are is
      (tells order its Q ending text explains.0 are.has_core.core.core j explains.1 status (subst (Appends call.written_before call.written_after) explains.2 written))

  by_belongs : (order : Order) → AsksToExplain order → (status : ℕ) (text : List ℕ) → BelongsToFile order name file status text → call.status ≡ status → Appends call.written_before call.written_after text
      → length file ≤ longest_source → (tree : ProgramTree) (P : Program) → IsWellFormedSource file tree P → TellsBroken order call name file tree P
  by_belongs order asks _ _ (too_large over) e written small tree P is = absurd (omega (arith, over, small))
  by_belongs order asks _ _ (ended ending text within answer) e written small tree P is = by_answer order asks ending text answer e written tree P is

-- the sentence
pub sentence_of : (call : Call) → ((order : Order) (name file : List ℕ) → IsAskedFile call.words call.told order name file → HasNoFault call (name ∷ [])
    → (call.status ≡ 8) ⊎ WritesText (BelongsToFile order name file call.status) call.written_before call.written_after) → ExplainsBroken call
sentence_of call complete order name file asks words told small calm tree P is = elim (complete order name file (record { is_row = words; is_told = told }) calm) [
  | inl memory ↦ inl memory
  | inr w ↦ inr (by_belongs call name file order asks call.status w.text w.belongs refl w.written small tree P is)
]

-- nothing failed at the only file
pub calm_file : (call : Call) (name : List ℕ) → HasNoFault call (name ∷ []) → Rose (call.files_before name) (call.files_after name) → ⊥
calm_file call name calm = calm.files name (0, omega arith, refl)
