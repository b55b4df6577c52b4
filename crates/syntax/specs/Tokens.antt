-- The tokens that the grammar names, and those of names and numbers.
use Rattle.std.specs.Prelude.{ℕ, List, Bool, true, false, codes, ◌&&◌}
use Rattle.std.specs.Str.{bytes_eq}
use Rattle.lexer.specs.declared.tokens.Token.{Token}
use Rattle.lexer.specs.declared.tokens.TokenKind.{TokenKind}
use Rattle.lexer.specs.declared.tokens.TokenKind.TheVariants as K
use Rattle.syntax.specs.declared.terminal.Terminal.{Terminal}
use Rattle.syntax.specs.declared.terminal.Terminal.TheVariants as T
use Rattle.syntax.specs.declared.tree.Name.{Name}

-- the text of a terminal
abbrev pub spelling : Terminal → List ℕ
spelling T.Public = codes "public"
spelling T.Class = codes "class"
spelling T.Extends = codes "extends"
spelling T.Implements = codes "implements"
spelling T.Runnable = codes "Runnable"
spelling T.Final = codes "final"
spelling T.GuardedBy = codes "guarded_by"
spelling T.WriteGuardedBy = codes "write_guarded_by"
spelling T.This = codes "this"
spelling T.Atomic = codes "atomic"
spelling T.Void = codes "void"
spelling T.Requires = codes "requires"
spelling T.Int = codes "int"
spelling T.Boolean = codes "boolean"
spelling T.If = codes "if"
spelling T.Else = codes "else"
spelling T.While = codes "while"
spelling T.Synchronized = codes "synchronized"
spelling T.Return = codes "return"
spelling T.System = codes "System"
spelling T.New = codes "new"
spelling T.Thread = codes "Thread"
spelling T.True = codes "true"
spelling T.False = codes "false"
spelling T.Null = codes "null"
spelling T.Out = codes "out"
spelling T.Println = codes "println"
spelling T.Start = codes "start"
spelling T.OpenParen = codes "("
spelling T.CloseParen = codes ")"
spelling T.OpenBrace = codes "{"
spelling T.CloseBrace = codes "}"
spelling T.Semicolon = codes ";"
spelling T.Comma = codes ","
spelling T.Dot = codes "."
spelling T.Assign = codes "="
spelling T.EqualTo = codes "=="
spelling T.NotEqual = codes "!="
spelling T.Less = codes "<"
spelling T.LessEqual = codes "<="
spelling T.Greater = codes ">"
spelling T.GreaterEqual = codes ">="
spelling T.Plus = codes "+"
spelling T.Minus = codes "-"
spelling T.Star = codes "*"
spelling T.Slash = codes "/"
spelling T.Percent = codes "%"
spelling T.Bang = codes "!"
spelling T.AndAnd = codes "&&"
spelling T.OrOr = codes "||"

-- the kind of a terminal
abbrev pub terminal_kind : Terminal → TokenKind
terminal_kind T.Out = K.Name
terminal_kind T.Println = K.Name
terminal_kind T.Start = K.Name
terminal_kind T.OpenParen = K.Sign
terminal_kind T.CloseParen = K.Sign
terminal_kind T.OpenBrace = K.Sign
terminal_kind T.CloseBrace = K.Sign
terminal_kind T.Semicolon = K.Sign
terminal_kind T.Comma = K.Sign
terminal_kind T.Dot = K.Sign
terminal_kind T.Assign = K.Sign
terminal_kind T.EqualTo = K.Sign
terminal_kind T.NotEqual = K.Sign
terminal_kind T.Less = K.Sign
terminal_kind T.LessEqual = K.Sign
terminal_kind T.Greater = K.Sign
terminal_kind T.GreaterEqual = K.Sign
terminal_kind T.Plus = K.Sign
terminal_kind T.Minus = K.Sign
terminal_kind T.Star = K.Sign
terminal_kind T.Slash = K.Sign
terminal_kind T.Percent = K.Sign
terminal_kind T.Bang = K.Sign
terminal_kind T.AndAnd = K.Sign
terminal_kind T.OrOr = K.Sign
terminal_kind T.Public = K.Word
terminal_kind T.Class = K.Word
terminal_kind T.Extends = K.Word
terminal_kind T.Implements = K.Word
terminal_kind T.Runnable = K.Word
terminal_kind T.Final = K.Word
terminal_kind T.GuardedBy = K.Word
terminal_kind T.WriteGuardedBy = K.Word
terminal_kind T.This = K.Word
terminal_kind T.Atomic = K.Word
terminal_kind T.Void = K.Word
terminal_kind T.Requires = K.Word
terminal_kind T.Int = K.Word
terminal_kind T.Boolean = K.Word
terminal_kind T.If = K.Word
terminal_kind T.Else = K.Word
terminal_kind T.While = K.Word
terminal_kind T.Synchronized = K.Word
terminal_kind T.Return = K.Word
terminal_kind T.System = K.Word
terminal_kind T.New = K.Word
terminal_kind T.Thread = K.Word
terminal_kind T.True = K.Word
terminal_kind T.False = K.Word
terminal_kind T.Null = K.Word

-- the word before a guard: one of all accesses, or one of writes alone
abbrev pub guard_word : Bool → Terminal
guard_word false = T.GuardedBy
guard_word true = T.WriteGuardedBy

-- whether two kinds are one kind that is no number
abbrev pub same_kind : TokenKind → TokenKind → Bool
same_kind K.Name K.Name = true
same_kind K.Name K.Word = false
same_kind K.Name (K.Number n) = false
same_kind K.Name K.Sign = false
same_kind K.Word K.Name = false
same_kind K.Word K.Word = true
same_kind K.Word (K.Number n) = false
same_kind K.Word K.Sign = false
same_kind (K.Number m) k = false
same_kind K.Sign K.Name = false
same_kind K.Sign K.Word = false
same_kind K.Sign (K.Number n) = false
same_kind K.Sign K.Sign = true

-- whether a token is a terminal's
abbrev pub is : Terminal → Token → Bool
is t x = same_kind x.kind (terminal_kind t) && bytes_eq x.text (spelling t)

-- the token of a terminal at an offset
abbrev pub token : Terminal → ℕ → Token
token t at = record { kind = terminal_kind t; text = spelling t; at = at }

-- the token of a name
abbrev pub name_token : Name → Token
name_token n = record { kind = K.Name; text = n.text; at = n.at }

-- the token of a number, however it is written
abbrev pub number_token : ℕ → List ℕ → ℕ → Token
number_token n text at = record { kind = K.Number n; text = text; at = at }
