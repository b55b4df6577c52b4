-- The limits of sources, words and numbers.
use Rattle.std.specs.Prelude.{ℕ}
use Rattle.lexer.specs.declared.lexer.TheConstants.{GREATEST_LITERAL, LONGEST_SOURCE, LONGEST_WORD}

-- how many bytes a source may have
abbrev pub longest_source : ℕ
longest_source = LONGEST_SOURCE

-- how many bytes a word may have
abbrev pub longest_word : ℕ
longest_word = LONGEST_WORD

-- the greatest number that a source may write
abbrev pub greatest_literal : ℕ
greatest_literal = GREATEST_LITERAL
