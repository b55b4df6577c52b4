-- The line that the program writes for words that are no row.
use Rattle.std.specs.Prelude.{ℕ, List, ◌++◌, codes}
use Rattle.edge.specs.Lines.{line_end}

-- one line with every command and the words that it takes
abbrev pub usage_line : List ℕ
usage_line = codes "usage: atomic check FILE | run FILE SCHEDULE | serialise FILE SCHEDULE | derive FILE | verify FILE BOOK | print FILE | generate N | serialise-open FILE SCHEDULE | blame FILE | verify-blame FILE CERT | levels FILE LEVELS | replay FILE SCHEDULE" ++ line_end
