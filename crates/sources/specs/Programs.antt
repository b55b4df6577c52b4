-- The program of the grammar that bytes are, or the line that says why they are none.
use Rattle.std.specs.Prelude.{ℕ, List, length, take, Option, Some, None, IsUtf8, codes, slice_get}
use Rattle.std.specs.Str.{IsValidUpTo}
use Rattle.lexer.specs.declared.tokens.Token.{Token}
use Rattle.lexer.specs.declared.faults.LexFault.{LexFault}
use Rattle.lexer.specs.Tokens.{Tokens, FirstFault}
use Rattle.syntax.specs.Faults.{IsUnexpected, IsTooDeep}
use Rattle.syntax.specs.Grammar.{Grammar}
use Rattle.syntax.specs.Trees.{ProgramTree}
use Rattle.report.specs.SourceFaults.{refused_line, lex_offset_of, lex_kind}
use Rattle.sources.specs.declared.refusal.Ending.{Ending}
use Rattle.sources.specs.declared.refusal.Ending.TheVariants.{Refused}

-- the bytes are a text whose tokens the grammar relates to the tree
pub record IsProgram (file : List ℕ) (tree : ProgramTree) : Type 0 where
  pub tokens : List Token
  pub text : IsUtf8 file
  pub cut : Tokens file tokens
  pub grammar : Grammar tokens tree

-- the offset of a token, or the length of the text for its end
abbrev pub offset_at : Option Token → ℕ → ℕ
offset_at None end = end
offset_at (Some token) end = token.at

-- the offset of the token at this place; at the end of the tokens, the end of the file
abbrev pub token_offset : List ℕ → List Token → ℕ → ℕ
token_offset file tokens place = offset_at (slice_get tokens place) (length file)

-- the line that refuses a file that is no program: its first fault
pub data NoProgram (file : List ℕ) : Ending → List ℕ → Type 0 where
  not_text : (at : ℕ) → IsValidUpTo file at → NoProgram file Refused (refused_line (take at file) at (codes "not text"))
  no_tokens : (fault : LexFault) → IsUtf8 file → FirstFault file fault → NoProgram file Refused (refused_line file (lex_offset_of fault) (lex_kind fault))
  unexpected : (tokens : List Token) (place : ℕ) → IsUtf8 file → Tokens file tokens → IsUnexpected tokens place
      → NoProgram file Refused (refused_line file (token_offset file tokens place) (codes "unexpected"))
  too_deep : (tokens : List Token) (place : ℕ) → IsUtf8 file → Tokens file tokens → IsTooDeep tokens place
      → NoProgram file Refused (refused_line file (token_offset file tokens place) (codes "too deep"))
