-- The statements without statements in them, from the left, within a height.
use Rattle.std.specs.Prelude.{ℕ, nat_lt, Bool, true, false, not, ◌&&◌, ◌||◌, List, Some, None, Ok, Err, if◌then◌else◌}
use Rattle.lexer.specs.declared.tokens.Token.{Token}
use Rattle.syntax.specs.declared.terminal.Terminal.TheVariants as T
use Rattle.syntax.specs.declared.tree.TypeName.{TypeName}
use Rattle.syntax.specs.declared.tree.TypeName.TheVariants as Y
use Rattle.syntax.specs.Grammar.{may_be_statement}
use Rattle.syntax.specs.Heights.{height}
use Rattle.syntax.specs.Tokens.{is}
use Rattle.syntax.specs.Trees.{ExprTree, NumberE, LeastE, TruthE, NullE, ThisE, VarE, ParenE, NotE, NegE, BinaryE, GetE, CallE, NewE, StmtTree, EmptyS, LocalS, SetVarS, SetFieldS, DoS, ReturnS, PrintS, StartS}
use Rattle.parser.specs.Combine.{Res, ◌>>=◌, starts, first, take_one, allow}
use Rattle.parser.specs.declared.stop.SyntaxFault.TheVariants as F
use Rattle.parser.specs.Words.{a_name, is_name, type_name}
use Rattle.syntax.specs.Offsets.{first_at}
use Rattle.parser.specs.Expressions.{is_leaf, new_rest, primary, dots, below}

-- whether a token begins a declaration by itself: `final`, `int` or `boolean`; one that begins with a class name takes two tokens to tell
abbrev pub begins_local : Token → Bool
begins_local x = is T.Final x || is T.Int x || is T.Boolean x

-- whether a token may stand first in a statement, or in a block's
unfoldable pub begins_statement : Bool → Token → Bool
begins_statement in_block x =
    is T.OpenBrace x || is T.Semicolon x || is T.If x || is T.While x || is T.Synchronized x || is T.Return x || is T.System x
    || is T.New x || is T.OpenParen x || is_leaf x || (in_block && begins_local x)

-- whether a block goes on
abbrev pub block_goes_on : Token → Bool
block_goes_on x = not (is T.CloseBrace x)

-- the parts that begin at height h
module _ (h : ℕ) where
  -- an expression with operators of all levels, as a part of a statement of height h
  abbrev pub expression : List Token → Res ExprTree
  expression ts = below h 6 ts

  -- an expression in parentheses that belong to the statement
  unfoldable pub condition : List Token → Res ExprTree
  condition ts = take_one T.OpenParen ts >>= λ o ts. expression ts >>= λ e ts. take_one T.CloseParen ts >>= λ c ts. Ok (e, ts)

  -- a `return`, with a value or without one
  unfoldable pub return_statement : List Token → Res StmtTree
  return_statement ts = take_one T.Return ts >>= λ d ts.
      if starts (is T.Semicolon) ts then (take_one T.Semicolon ts >>= λ c ts. Ok (ReturnS None d, ts))
      else (expression ts >>= λ e ts. take_one T.Semicolon ts >>= λ c ts. Ok (ReturnS (Some e) d, ts))

  -- `System.out.println(e);`
  unfoldable pub print_statement : List Token → Res StmtTree
  print_statement ts =
      take_one T.System ts >>= λ s ts. take_one T.Dot ts >>= λ d ts. take_one T.Out ts >>= λ o ts. take_one T.Dot ts >>= λ e ts.
      take_one T.Println ts >>= λ p ts. condition ts >>= λ v ts. take_one T.Semicolon ts >>= λ c ts. Ok (PrintS v s, ts)

  -- a start of a thread, from the word `Thread` behind `new` on
  unfoldable pub start_rest : ℕ → List Token → Res StmtTree
  start_rest at ts =
      take_one T.Thread ts >>= λ t ts. condition ts >>= λ v ts. take_one T.Dot ts >>= λ d ts. take_one T.Start ts >>= λ s ts.
      take_one T.OpenParen ts >>= λ o ts. take_one T.CloseParen ts >>= λ c ts. take_one T.Semicolon ts >>= λ e ts. Ok (StartS v at, ts)

  -- `= expr ;`, with the offset of the `=`
  unfoldable pub assigned : List Token → Res (ExprTree × ℕ)
  assigned ts = take_one T.Assign ts >>= λ d ts. expression ts >>= λ v ts. take_one T.Semicolon ts >>= λ c ts. Ok ((v, d), ts)

  -- the statement that is made of what is assigned and the offset of the `=`
  unfoldable pub assign : (ExprTree → ℕ → StmtTree) → List Token → Res StmtTree
  assign make ts = assigned ts >>= λ v ts. Ok (make v.0 v.1, ts)

  -- a declaration from the name of its local on
  unfoldable pub local_rest : Bool → TypeName → ℕ → List Token → Res StmtTree
  local_rest fin ty at ts = first a_name ts >>= λ n ts. assign (λ v d. LocalS fin ty n v at) ts

  -- a declaration that begins with `final`, `int` or `boolean`
  unfoldable pub local_statement : List Token → Res StmtTree
  local_statement ts =
      if starts (is T.Final) ts then (take_one T.Final ts >>= λ d ts. type_name ts >>= λ t ts. local_rest true t d ts)
      else if starts (is T.Int) ts then (take_one T.Int ts >>= λ d ts. local_rest false Y.Int d ts)
      else (take_one T.Boolean ts >>= λ d ts. local_rest false Y.Boolean d ts)

  -- the end of a call or a `new` that stands as a statement, where that isn't too high
  unfoldable pub call_end : ExprTree → List Token → Res StmtTree
  call_end p ts =
      if starts (is T.Semicolon) ts then allow (nat_lt (height p) h) ts (take_one T.Semicolon ts >>= λ c ts. Ok (DoS p (first_at p), ts))
      else Err (F.Unexpected, ts)

  -- what stands before a `=`
  abbrev pub target : ExprTree → List Token → Res StmtTree
  target (VarE n) ts = assign (SetVarS n) ts
  target (GetE e n) ts = assign (SetFieldS e n) ts
  target (NumberE n at) ts = Err (F.Unexpected, ts)
  target (LeastE at) ts = Err (F.Unexpected, ts)
  target (TruthE b at) ts = Err (F.Unexpected, ts)
  target (NullE at) ts = Err (F.Unexpected, ts)
  target (ThisE at) ts = Err (F.Unexpected, ts)
  target (ParenE e at) ts = Err (F.Unexpected, ts)
  target (NotE e at) ts = Err (F.Unexpected, ts)
  target (NegE e at) ts = Err (F.Unexpected, ts)
  target (BinaryE o e f at) ts = Err (F.Unexpected, ts)
  target (CallE e n args) ts = Err (F.Unexpected, ts)
  target (NewE n args at) ts = Err (F.Unexpected, ts)

  -- a statement whose first expression was read: a call ends it, and else an assignment follows
  unfoldable pub finish : ExprTree → List Token → Res StmtTree
  finish p ts = if may_be_statement p then call_end p ts else target p ts

  -- the same, where dots may still follow the expression
  unfoldable pub finish_from : ExprTree → List Token → Res StmtTree
  finish_from e ts = dots h (below h) e ts >>= λ p ts. finish p ts

  -- a statement that begins with `new`: a start of a thread, or an expression
  unfoldable pub new_statement : List Token → Res StmtTree
  new_statement ts = take_one T.New ts >>= λ d ts.
      if starts (is T.Thread) ts then start_rest d ts else (new_rest h (below h) d ts >>= λ e ts. finish_from e ts)

  -- a statement that begins with a name: in a block a declaration, where a second name follows; else an expression
  unfoldable pub name_statement : Bool → List Token → Res StmtTree
  name_statement in_block ts = first a_name ts >>= λ n ts.
      if starts (λ x. in_block && is_name x) ts then local_rest false (Y.Class n) n.at ts else finish_from (VarE n) ts

  -- a statement that begins with an expression of another kind
  unfoldable pub expression_statement : List Token → Res StmtTree
  expression_statement ts = primary h (below h) ts >>= λ e ts. finish_from e ts

  -- the statements without parts of their own kind
  unfoldable pub plain_statement : Bool → List Token → Res StmtTree
  plain_statement in_block ts =
      if starts (is T.Semicolon) ts then (take_one T.Semicolon ts >>= λ c ts. Ok (EmptyS c, ts))
      else if starts (is T.Return) ts then return_statement ts
      else if starts (is T.System) ts then print_statement ts
      else if starts (is T.New) ts then new_statement ts
      else if starts is_name ts then name_statement in_block ts
      else if starts (λ x. in_block && begins_local x) ts then local_statement ts
      else expression_statement ts
