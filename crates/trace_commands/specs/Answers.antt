-- Which status and which first line belong to the bytes of a log.
use Rattle.std.specs.Prelude.{◌≡◌, ◌≢◌, ℕ, List, []}
use Rattle.logs.specs.Judging.{Refusal}
use Rattle.logs.specs.Logs.{Guard}
use Rattle.logs.specs.Said.{SaidData}
use Rattle.logs.specs.Numbers.{number_of_word}
use Rattle.logs.specs.Walks.{Stand, Stands, NoLine, Refused, front, walked}
use Rattle.trace_commands.specs.Lines.{serial_line, fault_line, no_line_kind, refused_kind, refused_status, open_kind}

-- the status and the first line for a log of this name and these bytes, where places have these guards
pub data IsAnswer (guard : ℕ → Guard) (name bytes : List ℕ) : ℕ → List ℕ → Type 0 where
  -- the judge comes to the end, which is the end of a line, and nobody is inside a block there
  serial : (s : Stand) → walked guard front bytes ≡ Stands s → s.row ≡ [] → ((t : ℕ) → s.known.depth t ≡ 0) → IsAnswer guard name bytes 0 serial_line
  -- it comes to a line that is no line of a log; or the last line has no end
  no_line : (line : ℕ) → walked guard front bytes ≡ NoLine line → IsAnswer guard name bytes 1 (fault_line name line no_line_kind)
  cut_off : (s : Stand) → walked guard front bytes ≡ Stands s → s.row ≢ [] → IsAnswer guard name bytes 1 (fault_line name s.line no_line_kind)
  -- it comes to a line that is refused
  refused : (line : ℕ) (said : SaidData) (why : Refusal) → walked guard front bytes ≡ Refused line said why
      → IsAnswer guard name bytes (refused_status why) (fault_line name line (refused_kind said why))
  -- it comes to the end, and this thread is inside a block there
  open_block : (s : Stand) (thread : List ℕ) → walked guard front bytes ≡ Stands s → s.row ≡ [] → s.known.depth (number_of_word thread) ≢ 0
      → IsAnswer guard name bytes 4 (fault_line name s.line (open_kind thread))
