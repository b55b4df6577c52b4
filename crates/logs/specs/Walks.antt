-- How a judge goes through the bytes of a log.
use Rattle.std.specs.Prelude.{ℕ, ◌+◌, ◌==◌, List, [], ◌∷◌, ◌++◌, Option, Some, None, if◌then◌else◌}
use Rattle.logs.specs.Judging.{Known, Note, Goes, Stops, Refusal, nothing_known, line_noted}
use Rattle.logs.specs.Logs.{Guard}
use Rattle.logs.specs.Said.{SaidData, said_of}
use Rattle.logs.specs.LogJudgeEvents.{log_line_of}

-- where a judge stands in a text: what is known after the lines before, the bytes behind the last line's end, and the number of the line
-- that they stand in
pub record Stand : Type 0 where
  pub known : Known
  pub row : List ℕ
  pub line : ℕ

-- at the front of a text
abbrev pub front : Stand
front = record { known = nothing_known; row = []; line = 1 }

-- how far a judge comes
pub data WalkedTo : Type 0 where
  -- to here
  Stands : Stand → WalkedTo
  -- to this line, which is no line of a log
  NoLine : ℕ → WalkedTo
  -- to this line, which is refused
  Refused : ℕ → SaidData → Refusal → WalkedTo

-- after a line that says this
abbrev pub after_note : Stand → SaidData → Note → WalkedTo
after_note s said (Goes k) = Stands (record { known = k; row = []; line = s.line + 1 })
after_note s said (Stops why) = Refused s.line said why

-- after the end of a line that is read so
abbrev pub after_row : (ℕ → Guard) → Stand → Option SaidData → WalkedTo
after_row guard s None = NoLine s.line
after_row guard s (Some said) = after_note s said (line_noted guard s.known (log_line_of said))

-- with one byte more
abbrev pub with_byte : Stand → ℕ → Stand
with_byte s b = record { known = s.known; row = s.row ++ b ∷ []; line = s.line }

-- after one byte: a line feed ends a line
abbrev pub after_byte : (ℕ → Guard) → Stand → ℕ → WalkedTo
after_byte guard s b = if b == 10 then after_row guard s (said_of s.row) else Stands (with_byte s b)

-- and on from there
abbrev pub walk_then : WalkedTo → (Stand → WalkedTo) → WalkedTo
walk_then (Stands s) later = later s
walk_then (NoLine n) later = NoLine n
walk_then (Refused n said why) later = Refused n said why

-- through these bytes
abbrev pub walked : (ℕ → Guard) → Stand → List ℕ → WalkedTo
walked guard s [] = Stands s
walked guard s (b ∷ bs) = walk_then (after_byte guard s b) (λ next. walked guard next bs)
