-- The rows of words that the program knows.
use Rattle.std.specs.Prelude.{◌≡◌, ◌<◌, ℕ, List, [], ◌∷◌, ◌++◌, codes, decimal, length}
use Rattle.lexer.specs.Limits.{longest_source}
use Rattle.sources.specs.Limits.{longest_second_file}
use Rattle.commands.specs.declared.command.Command.{Command}
use Rattle.commands.specs.declared.command.Command.TheVariants.{Check, Print, Run, Serialise, Derive, Verify, SerialiseOpen, Blame, VerifyBlame, Levels, Replay, Generate}

-- the word that names a command
abbrev pub command_word : Command → List ℕ
command_word Check = codes "check"
command_word Print = codes "print"
command_word Run = codes "run"
command_word Serialise = codes "serialise"
command_word Derive = codes "derive"
command_word Verify = codes "verify"
command_word SerialiseOpen = codes "serialise-open"
command_word Blame = codes "blame"
command_word VerifyBlame = codes "verify-blame"
command_word Levels = codes "levels"
command_word Replay = codes "replay"
command_word (Generate n) = codes "generate"

-- the words behind it that name no file: the number of workers, in decimal digits
abbrev pub worker_words : Command → List (List ℕ)
worker_words Check = []
worker_words Print = []
worker_words Run = []
worker_words Serialise = []
worker_words Derive = []
worker_words Verify = []
worker_words SerialiseOpen = []
worker_words Blame = []
worker_words VerifyBlame = []
worker_words Levels = []
worker_words Replay = []
worker_words (Generate n) = decimal n ∷ []

-- the numbers are those that a command may have: fewer than 1,000 workers
abbrev pub IsWithin : Command → Type 0
IsWithin Check = Unit {0}
IsWithin Print = Unit {0}
IsWithin Run = Unit {0}
IsWithin Serialise = Unit {0}
IsWithin Derive = Unit {0}
IsWithin Verify = Unit {0}
IsWithin SerialiseOpen = Unit {0}
IsWithin Blame = Unit {0}
IsWithin VerifyBlame = Unit {0}
IsWithin Levels = Unit {0}
IsWithin Replay = Unit {0}
IsWithin (Generate n) = n < 1000

-- the most bytes that each file of a command may have, in the order of the words
abbrev pub limits_of : Command → List ℕ
limits_of Check = longest_source ∷ []
limits_of Print = longest_source ∷ []
limits_of Run = longest_source ∷ longest_second_file ∷ []
limits_of Serialise = longest_source ∷ longest_second_file ∷ []
limits_of Derive = longest_source ∷ []
limits_of Verify = longest_source ∷ longest_second_file ∷ []
limits_of SerialiseOpen = longest_source ∷ longest_second_file ∷ []
limits_of Blame = longest_source ∷ []
limits_of VerifyBlame = longest_source ∷ longest_second_file ∷ []
limits_of Levels = longest_source ∷ longest_second_file ∷ []
limits_of Replay = longest_source ∷ longest_second_file ∷ []
limits_of (Generate n) = []

-- a command, and the names of its files
pub record Row : Type 0 where
  pub command : Command
  pub names : List (List ℕ)

-- the words are this row: the command's word, its number where it has one, and a name for each of its files
pub record IsRow (words : List (List ℕ)) (row : Row) : Type 0 where
  pub said : words ≡ command_word row.command ∷ (worker_words row.command ++ row.names)
  pub within : IsWithin row.command
  pub files : length row.names ≡ length (limits_of row.command)

-- the words are no row that is built
abbrev pub IsNoRow : List (List ℕ) → Type 0
IsNoRow words = (row : Row) → IsRow words row → ⊥
