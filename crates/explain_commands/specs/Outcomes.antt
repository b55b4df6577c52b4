-- What was found before anything is written.
use Rattle.std.specs.Prelude.{ℕ, ◌≤◌, List, [], ◌∷◌, ◌++◌, Option}
use Rattle.lexer.specs.Limits.{longest_source}
use Rattle.edge.specs.Lines.{cannot_read_line, too_large_line}
use Rattle.sources.specs.declared.refusal.Ending.{Ending}
use Rattle.sources.specs.Refusals.{code_of}
use Rattle.sources.specs.Files.{IsUnread, IsOver}
use Rattle.explain_commands.specs.declared.words.Order.{Order}
use Rattle.explain_commands.specs.Answers.{ExplainAnswer}
use Rattle.explain_commands.specs.Reading.{IsFileRead}
use Rattle.explain_commands.specs.Worse.{worse}

-- the status and the text of one file
pub data IsExplainOutcome (order : Order) (name : List ℕ) (told : List ℕ → Option (List ℕ)) (before now : List ℕ → ℕ) : ℕ → List ℕ → Type 0 where
  unread : IsUnread told before now name → IsExplainOutcome order name told before now 6 (cannot_read_line name)
  over : IsOver told before now longest_source name → IsExplainOutcome order name told before now 10 (too_large_line name)
  read : (file : List ℕ) (ending : Ending) (text : List ℕ) → IsFileRead told before now name file → ExplainAnswer order name file ending text
      → IsExplainOutcome order name told before now (code_of ending) text

-- the status and the text that are to be written of the files of these names, which are read one after the other: the status is the worst of
-- theirs, the text is theirs one behind the other
pub data AreOutcomes (order : Order) (told : List ℕ → Option (List ℕ)) : List (List ℕ) → (before now : List ℕ → ℕ) → ℕ → List ℕ → Type 0 where
  no_file : {before : List ℕ → ℕ} → AreOutcomes order told [] before before 0 []
  one_file : {name : List ℕ} {names : List (List ℕ)} {before between now : List ℕ → ℕ} {status worst : ℕ} {text rest : List ℕ}
      → IsExplainOutcome order name told before between status text → ((other : List ℕ) → before other ≤ between other)
      → AreOutcomes order told names between now worst rest → AreOutcomes order told (name ∷ names) before now (worse status worst) (text ++ rest)
