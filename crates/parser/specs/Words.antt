-- Reading names, numbers, operators, locks and types from lists of tokens.
use Rattle.std.specs.Prelude.{ℕ, ◌==◌, nat_lt, Bool, false, List, Option, Some, None, is_some, Ok, if◌then◌else◌}
use Rattle.lexer.specs.declared.tokens.Token.{Token}
use Rattle.lexer.specs.declared.tokens.TokenKind.{TokenKind}
use Rattle.lexer.specs.declared.tokens.TokenKind.TheVariants as K
use Rattle.lexer.specs.Limits.{greatest_literal}
use Rattle.syntax.specs.declared.terminal.Terminal.TheVariants as T
use Rattle.syntax.specs.declared.tree.Name.{Name}
use Rattle.syntax.specs.declared.tree.Op.{Op}
use Rattle.syntax.specs.declared.tree.Op.TheVariants as O
use Rattle.syntax.specs.declared.tree.TypeName.{TypeName}
use Rattle.syntax.specs.declared.tree.TypeName.TheVariants as Y
use Rattle.syntax.specs.Grammar.{level}
use Rattle.syntax.specs.Tokens.{is}
use Rattle.syntax.specs.Trees.{LockTree}
use Rattle.parser.specs.Combine.{Res, ◌>>=◌, starts, first, when, take_one, several}

-- names, numbers and operators

-- a text and its offset as a name, where its kind is that of names
abbrev pub name_if : TokenKind → List ℕ → ℕ → Option Name
name_if K.Name text at = Some record { text = text; at = at }
name_if K.Word text at = None
name_if (K.Number n) text at = None
name_if K.Sign text at = None

-- the name that a token is, where it is one
abbrev pub a_name : Token → Option Name
a_name x = name_if x.kind x.text x.at

-- whether a token is a name, and no reserved word
abbrev pub is_name : Token → Bool
is_name x = is_some (a_name x)

-- the value of a token of this kind, where it is a number
abbrev pub number_if : TokenKind → Option ℕ
number_if K.Name = None
number_if K.Word = None
number_if (K.Number n) = Some n
number_if K.Sign = None

-- a number below 2147483648, and its offset
abbrev pub small_number : Option ℕ → ℕ → Option (ℕ × ℕ)
small_number (Some n) at = when (nat_lt n greatest_literal) (n, at)
small_number None at = None

-- a number up to 2147483647, and its offset
abbrev pub a_number : Token → Option (ℕ × ℕ)
a_number x = small_number (number_if x.kind) x.at

-- whether a token is a number that may stand without a `-`
abbrev pub may_be_number : Token → Bool
may_be_number x = is_some (a_number x)

-- whether a number is there and is 2147483648
abbrev pub least_number : Option ℕ → Bool
least_number (Some n) = n == greatest_literal
least_number None = false

-- 2147483648, which stands only behind a `-`
abbrev pub is_least : Token → Bool
is_least x = least_number (number_if x.kind)

-- the offset of the number 2147483648, which stands only behind a `-`
abbrev pub a_least : Token → Option ℕ
a_least x = when (is_least x) x.at

-- the operator that a token is
unfoldable pub op_of : Token → Option Op
op_of x =
    if is T.Star x then Some O.Mul else if is T.Slash x then Some O.Div else if is T.Percent x then Some O.Rem
    else if is T.Plus x then Some O.Add else if is T.Minus x then Some O.Sub
    else if is T.Less x then Some O.Lt else if is T.LessEqual x then Some O.Le
    else if is T.Greater x then Some O.Gt else if is T.GreaterEqual x then Some O.Ge
    else if is T.EqualTo x then Some O.Eq else if is T.NotEqual x then Some O.Ne
    else if is T.AndAnd x then Some O.And else if is T.OrOr x then Some O.Or else None

-- an operator of level k, and its offset; none where it binds at another level
abbrev pub op_at : ℕ → Option Op → ℕ → Option (Op × ℕ)
op_at k (Some o) at = when (level o == k) (o, at)
op_at k None at = None

-- an operator of a level, and its offset
abbrev pub an_op : ℕ → Token → Option (Op × ℕ)
an_op k x = op_at k (op_of x) x.at

-- whether a token is a binary operator of level k
abbrev pub is_op : ℕ → Token → Bool
is_op k x = is_some (an_op k x)

-- whether a token is an operator of any level
abbrev pub is_any_op : Token → Bool
is_any_op x = is_some (op_of x)

-- locks and types

-- a dot and the name of a field
unfoldable pub field_name : List Token → Res Name
field_name ts = take_one T.Dot ts >>= λ d ts. first a_name ts

-- a lock: `this` or a name, and as many fields behind it as stand there
unfoldable pub lock : List Token → Res LockTree
lock ts =
    if starts (is T.This) ts
    then (take_one T.This ts >>= λ d ts. several (is T.Dot) field_name ts >>= λ fs ts. Ok (record { root = None; fields = fs; at = d }, ts))
    else (first a_name ts >>= λ n ts. several (is T.Dot) field_name ts >>= λ fs ts. Ok (record { root = Some n; fields = fs; at = n.at }, ts))

-- `int`, `boolean` or the name of a class
unfoldable pub type_name : List Token → Res TypeName
type_name ts =
    if starts (is T.Int) ts then (take_one T.Int ts >>= λ d ts. Ok (Y.Int, ts))
    else if starts (is T.Boolean) ts then (take_one T.Boolean ts >>= λ d ts. Ok (Y.Boolean, ts))
    else (first a_name ts >>= λ n ts. Ok (Y.Class n, ts))
