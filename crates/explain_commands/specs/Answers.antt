-- What is answered to the bytes of a file.
use Rattle.std.specs.Prelude.{◌≡◌, ℕ, List, ◌++◌, map}
use Rattle.classes.specs.Table.{table_of}
use Rattle.core_program.specs.Core.{Program}
use Rattle.core_program.specs.Typed.{IsTyped}
use Rattle.explain.specs.declared.grounds.Ground.{Ground}
use Rattle.explain.specs.Ranking.{AreAllRanked}
use Rattle.explain_text.specs.Pages.{PageData}
use Rattle.paths.specs.Paths.{PathData}
use Rattle.places.specs.Sources.{methods_in}
use Rattle.rules.specs.Effect.{Assignment}
use Rattle.rules.specs.Near.{MethodPaths, rel_of}
use Rattle.rules.specs.Overriding.{AreOverriders}
use Rattle.rules.specs.Search.{row_at}
use Rattle.sources.specs.declared.refusal.Ending.{Ending}
use Rattle.sources.specs.Checking.{IsWellFormedSource}
use Rattle.sources.specs.Verdicts.{HasLeast}
use Rattle.syntax.specs.Trees.{ProgramTree, MethodM}
use Rattle.explain_commands.specs.declared.words.Order.{Order}
use Rattle.explain_commands.specs.declared.words.Order.TheVariants.{Why, All, Strict}
use Rattle.explain_text.specs.Arrangements.{arranged}
use Rattle.explain_commands.specs.Broken.{ending_for}
use Rattle.explain_commands.specs.Explained.{page_of, AreTexts}
use Rattle.explain_commands.specs.Faults.{IsSourceFaultLine}
use Rattle.explain_commands.specs.Listed.{all_lines}
use Rattle.explain_commands.specs.Orders.{IsProgramVerdict, bounds_for, broken_for, explanations_for}
use Rattle.explain_commands.specs.Warned.{warnings_text}

-- the text has the lines of the explanations that are asked of a program
pub record Explains (order : Order) (P : Program) (rel : ℕ → List PathData) (A : Assignment) (pages : ℕ → PageData) (text : List ℕ) : Type 0 where
  -- for each method those that override it
  pub overs : List (List ℕ)
  pub are_overs : AreOverriders P overs
  -- on what the explanation of each method rests
  pub grounds : List Ground
  pub are_grounds : AreAllRanked (bounds_for order) P rel A (row_at overs) grounds
  pub texts : AreTexts P rel A pages (row_at overs) (arranged P rel (explanations_for order P rel A (row_at overs) grounds)) text

-- the text has these lines, and then a warning for each field that nothing guards and that is written
pub record ExplainsAndWarns (P : Program) (rel : ℕ → List PathData) (A : Assignment) (pages : ℕ → PageData) (text : List ℕ) : Type 0 where
  pub lines : List ℕ
  pub explains : Explains Strict P rel A pages lines
  pub whole : text ≡ lines ++ warnings_text Strict P pages

-- the text that belongs to what is asked for
abbrev pub IsText : Order → Program → (ℕ → List PathData) → Assignment → (ℕ → PageData) → List ℕ → Type 0
IsText Why P rel A pages text = Explains Why P rel A pages text
IsText All P rel A pages text = text ≡ all_lines P rel A pages
IsText Strict P rel A pages text = ExplainsAndWarns P rel A pages text

-- what the lines of each method of a source are written with
abbrev pub pages_of : (name file : List ℕ) → ProgramTree → ℕ → PageData
pages_of name file tree = page_of name file (table_of tree) (map MethodM (methods_in tree))

-- how it ends for a program, which is typed, by its least closed assignment, and the text
pub record IsJudgedProgram (order : Order) (P : Program) (pages : ℕ → PageData) (ending : Ending) (text : List ℕ) : Type 0 where
  pub sets : List MethodPaths
  pub assignment : Assignment
  pub typed : IsTyped P
  pub least : HasLeast P sets assignment
  -- it ends as refused where some method breaks its bound in that assignment, and as done where none does
  pub ending_is : ending ≡ ending_for (broken_for order P assignment)
  -- as the rules have it
  pub verdict : IsProgramVerdict order P ending
  pub text_is : IsText order P (rel_of sets) assignment pages text

-- what is answered to what is asked of a file: the line for one that is no well-formed source; or, of a well-formed source, how its
-- program is judged
pub data ExplainAnswer (order : Order) (name file : List ℕ) : Ending → List ℕ → Type 0 where
  no_source : {ending : Ending} {line : List ℕ} → IsSourceFaultLine name file ending line → ExplainAnswer order name file ending line
  judged : {ending : Ending} {text : List ℕ} (tree : ProgramTree) (P : Program) → IsWellFormedSource file tree P → IsJudgedProgram order P (pages_of name file tree) ending text
      → ExplainAnswer order name file ending text
