-- The warning of a field that is written though nothing guards it.
use Rattle.std.specs.Prelude.{ℕ, List, ◌++◌, codes}
use Rattle.explain.specs.declared.unguarded.BareWrite.{BareWrite}
use Rattle.explain_text.specs.Codes.{ending}
use Rattle.explain_text.specs.Pages.{PageData, node_offset, place_start}
use Rattle.explain_text.specs.Words.{field_title}

-- what is said of the field, and the line's code
abbrev pub unguarded_words : List ℕ
unguarded_words = codes " is written, and nothing guards it" ++ ending (codes "unguarded-field")

-- `FILE:LINE:COLUMN: warning: C.f is written, and nothing guards it [unguarded-field]`, at the write, with what the lines of its method are
-- written with
abbrev pub warning_line : PageData → BareWrite → List ℕ
warning_line page w = place_start page (node_offset page w.node) ++ codes ": warning: " ++ field_title page.table w.field ++ unguarded_words
