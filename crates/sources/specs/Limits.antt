-- The limit of what is read beside a source.
use Rattle.std.specs.Prelude.{ℕ}

-- how many bytes the second file of a row may have: a schedule, a book, a certificate or levels
abbrev pub longest_second_file : ℕ
longest_second_file = 16777216
