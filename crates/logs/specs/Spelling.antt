-- The text of a log.
use Rattle.std.specs.Prelude.{◌≡◌, ℕ, List, [], ◌∷◌, ◌++◌, map}
use Rattle.logs.specs.Events.{LogLine}
use Rattle.logs.specs.LogJudgeEvents.{log_line_of}
use Rattle.logs.specs.Said.{SaidData, AreWords, words_of, spell}

-- lines, each ended by a line feed
abbrev pub spelled_lines : List SaidData → List ℕ
spelled_lines [] = []
spelled_lines (s ∷ ss) = spell s ++ 10 ∷ spelled_lines ss

-- all words of these lines are words
abbrev pub AreLines : List SaidData → Type 0
AreLines [] = Unit {0}
AreLines (s ∷ ss) = AreWords (s.thread ∷ words_of s.deed) × AreLines ss

-- the lines as the system of logs has them
abbrev pub log_lines_of : List SaidData → List LogLine
log_lines_of ss = map log_line_of ss

-- this text is a log that says this
pub record IsLog (text : List ℕ) (said : List SaidData) : Type 0 where
  pub words : AreLines said
  pub bytes : text ≡ spelled_lines said
