-- The notes behind the first line.
use Rattle.std.specs.Prelude.{◌≡◌, ℕ, List, [], ◌++◌, codes, decimal}
use Rattle.edge.specs.Lines.{line_end}
use Rattle.logs.specs.Judging.{Refusal, HasEnded, NoBlock, Impossible, Cut}

-- `FILE:LINE: note: WORDS`
abbrev pub noted_line : (name : List ℕ) → (line : ℕ) → (words : List ℕ) → List ℕ
noted_line name line words = name ++ (codes ":" ++ (decimal line ++ (codes ": note: " ++ (words ++ line_end))))

-- the new text is the old one and a note on this line
abbrev pub AddsNote : (name : List ℕ) → (line : ℕ) → (old new : List ℕ) → Type 0
AddsNote name line old new = (words : List ℕ) × (new ≡ old ++ noted_line name line words)

-- the text is notes, one behind the other
pub data AreNotes (name : List ℕ) : List ℕ → Type 0 where
  none : AreNotes name []
  more : (before : List ℕ) (line : ℕ) (words : List ℕ) → AreNotes name before → AreNotes name (before ++ noted_line name line words)

-- the text is notes, and the last of them stands on this line
pub record AreNotesUpTo (name : List ℕ) (line : ℕ) (text : List ℕ) : Type 0 where
  pub notes : AreNotes name text
  pub last : (before : List ℕ) × AddsNote name line before text

-- the text is the notes on a line that is refused: there are some only where a block may be cut, and the last stands on that line
abbrev pub AreNotesOn : (name : List ℕ) → (line : ℕ) → Refusal → (text : List ℕ) → Type 0
AreNotesOn name line HasEnded text = text ≡ []
AreNotesOn name line NoBlock text = text ≡ []
AreNotesOn name line Impossible text = text ≡ []
AreNotesOn name line Cut text = AreNotesUpTo name line text
