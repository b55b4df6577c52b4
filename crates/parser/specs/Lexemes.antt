-- The numbers of the terminals, by which the parser tells them apart.
use Rattle.std.specs.Prelude.{◌≡◌, ℕ, ◌==◌, List, codes, if◌then◌else◌}
use Rattle.std.specs.Str.{bytes_eq}
use Rattle.lexer.specs.declared.tokens.Token.{Token}
use Rattle.syntax.specs.declared.terminal.Terminal.{Terminal}
use Rattle.syntax.specs.declared.terminal.Terminal.TheVariants as T
use Rattle.syntax.specs.Tokens.{is}

-- the number of a terminal
abbrev pub terminal_number : Terminal → ℕ
terminal_number T.Public = 0
terminal_number T.Class = 1
terminal_number T.Extends = 2
terminal_number T.Implements = 3
terminal_number T.Runnable = 4
terminal_number T.Final = 5
terminal_number T.GuardedBy = 6
terminal_number T.WriteGuardedBy = 7
terminal_number T.This = 8
terminal_number T.Atomic = 9
terminal_number T.Void = 10
terminal_number T.Requires = 11
terminal_number T.Int = 12
terminal_number T.Boolean = 13
terminal_number T.If = 14
terminal_number T.Else = 15
terminal_number T.While = 16
terminal_number T.Synchronized = 17
terminal_number T.Return = 18
terminal_number T.System = 19
terminal_number T.New = 20
terminal_number T.Thread = 21
terminal_number T.True = 22
terminal_number T.False = 23
terminal_number T.Null = 24
terminal_number T.Out = 25
terminal_number T.Println = 26
terminal_number T.Start = 27
terminal_number T.OpenParen = 28
terminal_number T.CloseParen = 29
terminal_number T.OpenBrace = 30
terminal_number T.CloseBrace = 31
terminal_number T.Semicolon = 32
terminal_number T.Comma = 33
terminal_number T.Dot = 34
terminal_number T.Assign = 35
terminal_number T.EqualTo = 36
terminal_number T.NotEqual = 37
terminal_number T.Less = 38
terminal_number T.LessEqual = 39
terminal_number T.Greater = 40
terminal_number T.GreaterEqual = 41
terminal_number T.Plus = 42
terminal_number T.Minus = 43
terminal_number T.Star = 44
terminal_number T.Slash = 45
terminal_number T.Percent = 46
terminal_number T.Bang = 47
terminal_number T.AndAnd = 48
terminal_number T.OrOr = 49

-- a number that is a terminal's exactly where the token is that terminal's
abbrev pub IsRank : Token → ℕ → Type 0
IsRank x rank = (t : Terminal) → is t x ≡ (rank == terminal_number t)

-- the number of the terminal that a name is, by its text
abbrev pub name_rank : List ℕ → ℕ
name_rank text =
    if bytes_eq text (codes "out") then terminal_number T.Out else if bytes_eq text (codes "println") then terminal_number T.Println
    else if bytes_eq text (codes "start") then terminal_number T.Start else 50
