-- Which status comes exactly where.
use Rattle.std.specs.Prelude.{◌≡◌, ◌≢◌, ◌⊎◌, ℕ, ◌<◌, ◌≤◌, List, [], Option, Some, None, Result, Ok, Err, length}
use Rattle.edge.specs.Said.{Exactly}
use Rattle.log_guess.specs.Given.{guards_of}
use Rattle.logs.specs.Logs.{Guard}
use Rattle.logs.specs.Walks.{WalkedTo, Stands, NoLine, Refused, front, walked}
use Rattle.trace_commands.specs.Lines.{refused_status}
use Rattle.trace_commands.specs.Outcomes.{longest_file}
use Rattle.trace_commands.specs.Words.{NamesLog}

-- The status that belongs to how far a judge comes: 1 where a line is no line of a log, or the last one has no end; 2 where a line may cut its
-- block, 3 where one can't have happened; at the end of all lines 4 where a thread is inside a block, and 0 where none is.
abbrev pub IsWalkStatus : (status : ℕ) → WalkedTo → Type 0
IsWalkStatus status (NoLine line) = status ≡ 1
IsWalkStatus status (Refused line said why) = status ≡ refused_status why
IsWalkStatus status (Stands s) =
    ((s.row ≢ []) × (status ≡ 1)) ⊎ ((s.row ≡ []) × (((t : ℕ) × (s.known.depth t ≢ 0) × (status ≡ 4)) ⊎ (((t : ℕ) → s.known.depth t ≡ 0) × (status ≡ 0))))

-- the status that belongs to a log of these bytes, where places have these guards
abbrev pub IsLogStatus : (ℕ → Guard) → (bytes : List ℕ) → (status : ℕ) → Type 0
IsLogStatus guard bytes status = IsWalkStatus status (walked guard front bytes)

-- the same with what a file of guards gives: 1 where it gives none, since a line of it is no line of guards
abbrev pub IsStatusByGiven : Result (ℕ → Guard) ℕ → (bytes : List ℕ) → (status : ℕ) → Type 0
IsStatusByGiven (Ok guard) bytes status = IsLogStatus guard bytes status
IsStatusByGiven (Err line) bytes status = status ≡ 1

-- the same with a file of guards of this text, which isn't over its limit
abbrev pub IsStatusByText : (text bytes : List ℕ) → (status : ℕ) → Type 0
IsStatusByText text bytes status = (length text ≤ longest_file) × IsStatusByGiven (guards_of text) bytes status

-- each status that judges a log comes exactly where its fact holds: serial; no line of a log, or of guards; a block that may be cut; a line that
-- can't have happened; a block that is open at the end
pub record AreExact (fact : ℕ → Type 0) (result : ℕ) : Type 0 where
  pub serial : Exactly result 0 (fact 0)
  pub no_line : Exactly result 1 (fact 1)
  pub cut : Exactly result 2 (fact 2)
  pub impossible : Exactly result 3 (fact 3)
  pub open_block : Exactly result 4 (fact 4)

-- the words name a log and a file of guards, the folder tells both, and the log isn't over its limit
pub record IsAskedByText (words : List (List ℕ)) (told : List ℕ → Option (List ℕ)) (log name bytes text : List ℕ) : Type 0 where
  pub row : NamesLog words log (Some name)
  pub log_told : told log ≡ Some bytes
  pub text_told : told name ≡ Some text
  pub within : length bytes ≤ longest_file

-- which status comes then: 10 exactly where the file of guards is over its limit, else the one that belongs to both
pub record IsExactByText (text bytes : List ℕ) (result : ℕ) : Type 0 where
  pub too_large : Exactly result 10 (longest_file < length text)
  pub judged : AreExact (IsStatusByText text bytes) result

-- the words name a log alone, the folder tells it, and it isn't over its limit
pub record IsAskedAlone (words : List (List ℕ)) (told : List ℕ → Option (List ℕ)) (log bytes : List ℕ) : Type 0 where
  pub row : NamesLog words log None
  pub log_told : told log ≡ Some bytes
  pub within : length bytes ≤ longest_file

-- which status comes then: with some guards, the one that belongs to the log
pub record IsExactAlone (bytes : List ℕ) (result : ℕ) : Type 0 where
  pub guard : ℕ → Guard
  pub judged : AreExact (IsLogStatus guard bytes) result
  pub small : result ≢ 10
