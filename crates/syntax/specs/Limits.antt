-- The limits of trees and tokens.
use Rattle.std.specs.Prelude.{ℕ}
use Rattle.lexer.specs.Limits.{longest_source}
use Rattle.syntax.specs.declared.tree.TheConstants.{MOST_HEIGHT}

-- how high a method body may be
abbrev pub most_height : ℕ
most_height = MOST_HEIGHT

-- how many tokens a source may have, each of at least one byte
abbrev pub most_tokens : ℕ
most_tokens = longest_source
