-- What is written, and with which status.
use Rattle.std.specs.Prelude.{◌≡◌, ℕ, ◌<◌, ◌≤◌, List, [], ◌∷◌, ◌++◌, Option, Some, IfSome, IsSome, length}
use Rattle.lexer.specs.Limits.{longest_source}
use Rattle.edge.specs.Faults.{Rose}
use Rattle.edge.specs.Lines.{cannot_read_line, too_large_line}
use Rattle.edge.specs.Said.{Exactly}
use Rattle.sources.specs.declared.refusal.Ending.{Ending}
use Rattle.sources.specs.Facts.{IsNotWellFormed}
use Rattle.sources.specs.Refusals.{code_of}
use Rattle.sources.specs.Files.{IsUnread, WritesText}
use Rattle.explain_commands.specs.declared.words.Order.{Order}
use Rattle.explain_commands.specs.Answers.{ExplainAnswer}
use Rattle.explain_commands.specs.Orders.{IsAcceptedSourceFor, IsRefusedSourceFor}
use Rattle.explain_commands.specs.Outcomes.{AreOutcomes}
use Rattle.explain_commands.specs.Words.{AsksFor}
use Rattle.explain_commands.specs.Worse.{worse}

-- the words ask for this of the file of this name, and the folder tells its bytes
pub record IsAskedFile (words : List (List ℕ)) (told : List ℕ → Option (List ℕ)) (order : Order) (name file : List ℕ) : Type 0 where
  pub is_row : AsksFor words order name
  pub is_told : told name ≡ Some file

-- the status and the text that belong to what is asked and the bytes of the file
pub data BelongsToFile (order : Order) (name file : List ℕ) : ℕ → List ℕ → Type 0 where
  too_large : longest_source < length file → BelongsToFile order name file 10 (too_large_line name)
  ended : (ending : Ending) (text : List ℕ) → length file ≤ longest_source → ExplainAnswer order name file ending text → BelongsToFile order name file (code_of ending) text

-- which status comes for the bytes of the file: 10 exactly where there are too many; else 1 exactly where they are no well-formed source, 2
-- where they are one for which no assignment is admissible, 0 where they are one for which some assignment is. By `--strict` each method but
-- those that threads begin with has to be atomic in that assignment.
pub record IsExactStatusOfFile (order : Order) (file : List ℕ) (result : ℕ) : Type 0 where
  pub too_large : Exactly result 10 (longest_source < length file)
  pub refused : Exactly result 1 ((length file ≤ longest_source) × IsNotWellFormed file)
  pub inadmissible : Exactly result 2 ((length file ≤ longest_source) × IsRefusedSourceFor order file)
  pub accepted : Exactly result 0 ((length file ≤ longest_source) × IsAcceptedSourceFor order file)

-- the file has bytes, which are those that are told where the folder tells it, and the text that belongs to these and the status was written
pub record WritesAnswerToFile (order : Order) (name : List ℕ) (told : List ℕ → Option (List ℕ)) (status : ℕ) (old new : Option (List ℕ)) : Type 0 where
  pub file : List ℕ
  pub its : IfSome (told name) (λ bytes. file ≡ bytes)
  pub answer : WritesText (BelongsToFile order name file status) old new

-- the text that belongs to some status, or the line of a file that couldn't be read
pub data IsSomeText (order : Order) (name file : List ℕ) (told : List ℕ → Option (List ℕ)) (before now : List ℕ → ℕ) : List ℕ → Type 0 where
  some_unread : IsUnread told before now name → IsSomeText order name file told before now (cannot_read_line name)
  some_answer : (status : ℕ) (text : List ℕ) → BelongsToFile order name file status text → IsSomeText order name file told before now text

-- the line of a file that couldn't be read, or a text that belongs to some status and to bytes of the file, which are those that are told
-- where the folder tells it
pub data IsSomeTextToBytes (order : Order) (name : List ℕ) (told : List ℕ → Option (List ℕ)) (before now : List ℕ → ℕ) : List ℕ → Type 0 where
  unread_line : IsUnread told before now name → IsSomeTextToBytes order name told before now (cannot_read_line name)
  answer_to : (file : List ℕ) (status : ℕ) (text : List ℕ) → IfSome (told name) (λ bytes. file ≡ bytes) → BelongsToFile order name file status text
      → IsSomeTextToBytes order name told before now text

-- ---- several files

-- each of the files of these names is told
abbrev pub AreTold : (told : List ℕ → Option (List ℕ)) → List (List ℕ) → Type 0
AreTold told [] = Unit {0}
AreTold told (name ∷ names) = IsSome (told name) × AreTold told names

-- no count of faults of these names rose or stands at its last value
abbrev pub AreCalm : (before now : List ℕ → ℕ) → List (List ℕ) → Type 0
AreCalm before now [] = Unit {0}
AreCalm before now (name ∷ names) = (Rose (before name) (now name) → ⊥) × AreCalm before now names

-- the status and the text that belong to what is asked and the bytes of these files: the status is the worst of those that belong to each by
-- itself, the text is theirs one behind the other
pub data AreAnswers (order : Order) (told : List ℕ → Option (List ℕ)) : List (List ℕ) → ℕ → List ℕ → Type 0 where
  no_answer : AreAnswers order told [] 0 []
  one_answer : {name : List ℕ} {names : List (List ℕ)} {status worst : ℕ} {text rest : List ℕ} (file : List ℕ) → told name ≡ Some file → BelongsToFile order name file status text
      → AreAnswers order told names worst rest → AreAnswers order told (name ∷ names) (worse status worst) (text ++ rest)

-- the text of all files, with whatever status
pub record IsTextOfFiles (order : Order) (names : List (List ℕ)) (told : List ℕ → Option (List ℕ)) (before now : List ℕ → ℕ) (text : List ℕ) : Type 0 where
  pub status : ℕ
  pub outcomes : AreOutcomes order told names before now status text
