-- What is written, and with which status.
use Rattle.std.specs.Prelude.{◌≡◌, ℕ, ◌<◌, ◌≤◌, List, Option, Some, None, length, ◌⊎◌}
use Rattle.lexer.specs.Limits.{longest_source}
use Rattle.sources.specs.Limits.{longest_second_file}
use Rattle.edge.specs.Lines.{cannot_read_line, too_large_line}
use Rattle.edge.specs.Said.{Exactly, IsTroubleStatus}
use Rattle.sources.specs.Facts.{IsNotWellFormed}
use Rattle.sources.specs.Files.{WritesText}
use Rattle.semantics.specs.Run.{Runs}
use Rattle.schedule_commands.specs.Schedules.{HasInput, IsWellFormedText, IsNoSchedule, LeavesCallOpen, EndsOutside}
use Rattle.witness_commands.specs.Answers.{WitnessAnswer, HasWitness, IsKeptEnd, IsWitnessOf}
use Rattle.witness_commands.specs.Reading.{AreInputsWithin, AreBytesOf, OfSchedule, IsFirstUnreadInput}
use Rattle.witness_commands.specs.Words.{NamesFiles}

-- the words are the names of a source and of a schedule, where one is given, and the folder tells the bytes of the files
pub record IsAsked (words : List (List ℕ)) (told : List ℕ → Option (List ℕ)) (source : List ℕ) (schedule : Option (List ℕ)) (file : List ℕ) (text : Option (List ℕ)) : Type 0 where
  pub is_row : NamesFiles words source schedule
  pub source_told : told source ≡ Some file
  pub schedule_told : OfSchedule (λ name bytes. told name ≡ Some bytes) schedule text

-- the status and the text that belong to the bytes of the files
pub data BelongsToFiles (source : List ℕ) (schedule : Option (List ℕ)) (file : List ℕ) (text : Option (List ℕ)) : ℕ → List ℕ → Type 0 where
  source_large : longest_source < length file → BelongsToFiles source schedule file text 10 (too_large_line source)
  schedule_large : (name bytes : List ℕ) → schedule ≡ Some name → text ≡ Some bytes → length file ≤ longest_source → longest_second_file < length bytes
      → BelongsToFiles source schedule file text 10 (too_large_line name)
  answered : {status : ℕ} {out : List ℕ} → AreInputsWithin file text → WitnessAnswer file text status out → BelongsToFiles source schedule file text status out

-- the status comes only where the fact holds; and where it does, the status comes, or 16 in its place, or one of the answers that come
-- before all others
pub record Decides (result status : ℕ) (fact : Type 0) : Type 0 where
  pub only : result ≡ status → fact
  pub all : fact → (result ≡ status) ⊎ ((result ≡ 16) ⊎ IsTroubleStatus result)

-- Which status comes for the bytes of a source and of a schedule: 10 exactly where one has too many; else 1 exactly where the first is no
-- well-formed source, 3 where the second is the text of no schedule, 4 where the schedule stops, 5 where it ends with a thread inside an
-- atomic call. Else 0 only where some order leaves the same, 2 only where the schedule is a witness; 16 may stand in place of either.
-- Nothing is said of how many states were seen by then.
pub record IsExactVerdict (file text : List ℕ) (result : ℕ) : Type 0 where
  pub too_large : Exactly result 10 ((longest_source < length file) ⊎ (longest_second_file < length text))
  pub refused : Exactly result 1 (AreInputsWithin file (Some text) × IsNotWellFormed file)
  pub no_schedule : Exactly result 3 (AreInputsWithin file (Some text) × IsWellFormedText file × IsNoSchedule text)
  pub stopped : Exactly result 4 (AreInputsWithin file (Some text) × HasInput file text (λ P s. Runs P s → ⊥))
  pub inside : Exactly result 5 (AreInputsWithin file (Some text) × HasInput file text LeavesCallOpen)
  pub kept : Decides result 0 (AreInputsWithin file (Some text) × HasInput file text IsKeptEnd)
  pub broken : Decides result 2 (AreInputsWithin file (Some text) × HasInput file text IsWitnessOf)
  pub undecided : result ≡ 16 → AreInputsWithin file (Some text) × HasInput file text EndsOutside

-- Which status comes for the bytes of a source alone: 10 exactly where there are too many; else 1 exactly where they are no well-formed
-- source; else 2 only where some schedule is a witness, and 16 may stand in its place.
pub record IsExactSearch (file : List ℕ) (result : ℕ) : Type 0 where
  pub too_large : Exactly result 10 (longest_source < length file)
  pub refused : Exactly result 1 (AreInputsWithin file None × IsNotWellFormed file)
  pub found : Decides result 2 (AreInputsWithin file None × HasWitness file)
  pub searched : AreInputsWithin file None × IsWellFormedText file → (result ≡ 2) ⊎ ((result ≡ 16) ⊎ IsTroubleStatus result)
  pub nothing : result ≡ 16 → AreInputsWithin file None × IsWellFormedText file

-- which status comes for the bytes of the files
abbrev pub IsExact : (file : List ℕ) → (text : Option (List ℕ)) → ℕ → Type 0
IsExact file (Some text) result = IsExactVerdict file text result
IsExact file None result = IsExactSearch file result

-- the files have bytes, which are those that are told where the folder tells them, and the text that belongs to these and the status
-- was written
pub record WritesAnswerToFiles (source : List ℕ) (schedule : Option (List ℕ)) (told : List ℕ → Option (List ℕ)) (status : ℕ) (old new : Option (List ℕ)) : Type 0 where
  pub file : List ℕ
  pub text : Option (List ℕ)
  pub source_is : AreBytesOf told source file
  pub schedule_is : OfSchedule (AreBytesOf told) schedule text
  pub answer : WritesText (BelongsToFiles source schedule file text status) old new

-- the text that belongs to some status, or the line of a file that couldn't be read
pub data IsSomeTextOfFiles (source : List ℕ) (schedule : Option (List ℕ)) (file : List ℕ) (text : Option (List ℕ)) (told : List ℕ → Option (List ℕ)) (before now : List ℕ → ℕ) : List ℕ → Type 0 where
  some_unread : (name : List ℕ) → IsFirstUnreadInput told before now source schedule name → IsSomeTextOfFiles source schedule file text told before now (cannot_read_line name)
  some_answer : (status : ℕ) (out : List ℕ) → BelongsToFiles source schedule file text status out → IsSomeTextOfFiles source schedule file text told before now out
