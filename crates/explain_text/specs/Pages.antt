-- What the lines of a method are written with, and how a line begins and ends.
use Rattle.std.specs.Prelude.{ℕ, List, ◌++◌, Option, codes, slice_get, unwrap_or}
use Rattle.classes.specs.Table.{TableData}
use Rattle.explain.specs.declared.names.Lack.{Lack}
use Rattle.lexer.specs.Places.{line_of, column_of, place_text}
use Rattle.explain_text.specs.Codes.{ending}

-- the name of the file and its text, the class table, and of the method that is told the names of its slots, the offsets of its nodes, and
-- the variable or the field that helps it where it is made final, if there is one
pub record PageData : Type 0 where
  pub file : List ℕ
  pub text : List ℕ
  pub table : TableData
  pub slots : List (List ℕ)
  pub offsets : List ℕ
  pub fitting : Option Lack

-- the same, with this variable or field for the method that is told
abbrev pub advised : PageData → Option Lack → PageData
advised page fitting = record page { fitting = fitting }

-- the offset of a node; 0 where the method has no such node
abbrev pub node_offset : PageData → ℕ → ℕ
node_offset page node = unwrap_or (slice_get page.offsets node) 0

-- `FILE:LINE:COLUMN`
abbrev pub place_start : PageData → ℕ → List ℕ
place_start page at = page.file ++ codes ":" ++ place_text (line_of page.text at) (column_of page.text at)

-- `FILE:LINE:COLUMN: `
abbrev pub place_front : PageData → ℕ → List ℕ
place_front page at = place_start page at ++ codes ": "

-- `FILE:LINE:COLUMN: KIND: `
abbrev pub words_before_kind : PageData → ℕ → List ℕ → List ℕ
words_before_kind page at kind = place_front page at ++ kind ++ codes ": "

-- what notes at a node begin with
abbrev pub note_front : PageData → ℕ → List ℕ
note_front page node = words_before_kind page (node_offset page node) (codes "note")

-- `FILE:LINE:COLUMN: note: TEXT [CODE]`
abbrev pub note_line : PageData → ℕ → (text code : List ℕ) → List ℕ
note_line page at text code = words_before_kind page at (codes "note") ++ text ++ ending code
