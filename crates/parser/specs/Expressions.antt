-- Recursive descent for expressions, with the height still allowed as its budget.
use Rattle.std.specs.Prelude.{ℕ, zero, suc, ◌-◌, nat_lt, Bool, true, false, not, ◌||◌, List, [], ◌∷◌, Ok, if◌then◌else◌}
use Rattle.lexer.specs.declared.tokens.Token.{Token}
use Rattle.syntax.specs.declared.terminal.Terminal.TheVariants as T
use Rattle.syntax.specs.declared.tree.Name.{Name}
use Rattle.syntax.specs.Heights.{height}
use Rattle.syntax.specs.Tokens.{is}
use Rattle.syntax.specs.Trees.{ExprTree, NumberE, LeastE, TruthE, NullE, ThisE, VarE, ParenE, NotE, NegE, BinaryE, GetE, CallE, NewE}
use Rattle.syntax.specs.Views.{exprs_from}
use Rattle.parser.specs.Combine.{Res, ◌>>=◌, starts, first, take_one, allow, beyond, loop, separated}
use Rattle.parser.specs.Words.{a_name, is_name, a_number, may_be_number, is_least, a_least, an_op, is_op, is_any_op, field_name}

-- whether an expression without parts begins with this token: a number, `true`, `false`, `null`, `this` or a name
abbrev pub is_leaf : Token → Bool
is_leaf x = may_be_number x || is T.True x || is T.False x || is T.Null x || is T.This x || is_name x

-- whether a token may stand first in an expression
unfoldable pub begins_expression : Token → Bool
begins_expression x = is T.OpenParen x || is T.New x || is T.Bang x || is T.Minus x || is_leaf x

-- whether the first token is an operand by itself: no sign, parenthesis or `new` that makes more of it, and neither a dot nor an operator behind it
unfoldable pub stands_alone : List Token → Bool
stands_alone [] = false
stands_alone (x ∷ xs) = not (is T.Bang x || is T.Minus x || is T.OpenParen x || is T.New x || starts (is T.Dot) xs || starts is_any_op xs)

-- an expression without parts
unfoldable pub leaf : List Token → Res ExprTree
leaf ts =
    if starts may_be_number ts then (first a_number ts >>= λ n ts. Ok (NumberE n.0 n.1, ts))
    else if starts (is T.True) ts then (take_one T.True ts >>= λ d ts. Ok (TruthE true d, ts))
    else if starts (is T.False) ts then (take_one T.False ts >>= λ d ts. Ok (TruthE false d, ts))
    else if starts (is T.Null) ts then (take_one T.Null ts >>= λ d ts. Ok (NullE d, ts))
    else if starts (is T.This) ts then (take_one T.This ts >>= λ d ts. Ok (ThisE d, ts))
    else (first a_name ts >>= λ n ts. Ok (VarE n, ts))

-- the parts that stand below a node of height h are read by inner, which takes the number of operator levels
module _ (h : ℕ) (inner : ℕ → List Token → Res ExprTree) where
  -- the arguments up to a closing parenthesis, which may be none
  unfoldable pub arguments : List Token → Res (List ExprTree)
  arguments ts = if starts (is T.CloseParen) ts then Ok ([], ts) else separated (inner 6) ts

  -- the arguments of a call or a `new`, in their parentheses
  unfoldable pub call_arguments : List Token → Res (List ExprTree)
  call_arguments ts = take_one T.OpenParen ts >>= λ o ts. arguments ts >>= λ es ts. take_one T.CloseParen ts >>= λ c ts. Ok (es, ts)

  -- a `new` from the name of its class on
  unfoldable pub new_rest : ℕ → List Token → Res ExprTree
  new_rest at ts = first a_name ts >>= λ n ts. call_arguments ts >>= λ es ts. Ok (NewE n (exprs_from es) at, ts)

  -- an expression in parentheses, which count as a node
  unfoldable pub parenthesised : List Token → Res ExprTree
  parenthesised ts = take_one T.OpenParen ts >>= λ o ts. inner 6 ts >>= λ e ts. take_one T.CloseParen ts >>= λ c ts. Ok (ParenE e o, ts)

  -- an expression in parentheses, a `new`, or an expression without parts
  unfoldable pub primary : List Token → Res ExprTree
  primary ts =
      if starts (is T.OpenParen) ts then parenthesised ts
      else if starts (is T.New) ts then (take_one T.New ts >>= λ d ts. new_rest d ts)
      else leaf ts

  -- what follows a dot and a name: the arguments of a call, or nothing behind a field
  unfoldable pub member_rest : ExprTree → Name → List Token → Res ExprTree
  member_rest e n ts =
      if starts (is T.OpenParen) ts then (call_arguments ts >>= λ es ts. Ok (CallE e n (exprs_from es), ts)) else Ok (GetE e n, ts)

  -- one more dot behind an expression, where the node that it makes isn't too high
  unfoldable pub member_step : ExprTree → List Token → Res ExprTree
  member_step e ts = allow (nat_lt (height e) h) ts (field_name ts >>= λ n ts. member_rest e n ts)

  -- all dots behind an expression
  unfoldable pub dots : ExprTree → List Token → Res ExprTree
  dots e ts = loop (is T.Dot) member_step e ts

  -- an expression that binds more tightly than each operator: what it begins with, and all dots behind that
  unfoldable pub postfix : List Token → Res ExprTree
  postfix ts = primary ts >>= λ e ts. dots e ts

  -- what follows a `-`: the number 2147483648, of which the `-` makes the least number, or an operand
  unfoldable pub negated : ℕ → List Token → Res ExprTree
  negated at ts =
      if starts is_least ts then (first a_least ts >>= λ n ts. Ok (LeastE at, ts)) else (inner 0 ts >>= λ e ts. Ok (NegE e at, ts))

  -- an operand with the `!` or `-` before it, or without one
  unfoldable pub unary : List Token → Res ExprTree
  unary ts =
      if starts (is T.Bang) ts then (take_one T.Bang ts >>= λ d ts. inner 0 ts >>= λ e ts. Ok (NotE e d, ts))
      else if starts (is T.Minus) ts then (take_one T.Minus ts >>= λ d ts. negated d ts)
      else postfix ts

  -- one more operator of the next level and its right operand, where the node that they make isn't too high
  unfoldable pub op_step : ℕ → ExprTree → List Token → Res ExprTree
  op_step k e ts =
      allow (nat_lt (height e) h) ts (first (an_op (suc k)) ts >>= λ o ts. inner k ts >>= λ f ts. Ok (BinaryE o.0 e f o.1, ts))

  -- operands with operators of the first k levels between them, which are taken from the left
  unfoldable pub chain_with : ℕ → List Token → Res ExprTree
  chain_with zero ts = unary ts
  chain_with (suc k) ts = chain_with k ts >>= λ e ts. loop (is_op (suc k)) (op_step k) e ts

  -- what n levels of operators more make of an operand of the first k levels
  unfoldable pub levels_from : ℕ → ℕ → ExprTree → List Token → Res ExprTree
  levels_from zero k e ts = Ok (e, ts)
  levels_from (suc n) k e ts = loop (is_op (suc k)) (op_step k) e ts >>= levels_from n (suc k)

-- an expression of at most h nodes in height, whose operators are of the first k levels
unfoldable pub chain_at : ℕ → ℕ → List Token → Res ExprTree
chain_at zero k ts = beyond begins_expression ts
chain_at (suc h) k ts = chain_with (suc h) (chain_at h) k ts

-- how the parts of a node of height h are read
abbrev pub below : ℕ → ℕ → List Token → Res ExprTree
below h = chain_at (h - 1)
