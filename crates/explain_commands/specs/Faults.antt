-- The line of a file that is no well-formed source.
use Rattle.std.specs.Prelude.{◌≡◌, ℕ, List, ◌++◌, codes}
use Rattle.lexer.specs.Places.{line_of, column_of, place_text}
use Rattle.report.specs.SourceFaults.{refused_line}
use Rattle.sources.specs.declared.refusal.Ending.{Ending}
use Rattle.sources.specs.Checking.{NoSource}

-- `FILE:LINE:COLUMN: error: KIND`
abbrev pub error_line : (name : List ℕ) → (line column : ℕ) → (kind : List ℕ) → List ℕ
error_line name line column kind = name ++ codes ":" ++ place_text line column ++ codes ": error: " ++ kind ++ codes "\n"

-- that line, for a fault of this kind at this offset of the text
abbrev pub fault_line_at : (name text : List ℕ) → (at : ℕ) → (kind : List ℕ) → List ℕ
fault_line_at name text at kind = error_line name (line_of text at) (column_of text at) kind

-- the line for a file that is no well-formed source: it has the place and the kind of the line by which `check` refuses the file, which is
-- that of the file's first fault. The text is the file, or the front of it that is text.
pub record IsSourceFaultLine (name file : List ℕ) (ending : Ending) (line : List ℕ) : Type 0 where
  pub text : List ℕ
  pub at : ℕ
  pub kind : List ℕ
  pub refused : NoSource file ending (refused_line text at kind)
  pub line_is : line ≡ fault_line_at name text at kind
