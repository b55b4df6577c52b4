-- The heights of trees: 1 more than the highest part, where parentheses count and locks don't.
use Rattle.std.specs.Prelude.{ℕ, ◌+◌, max, List, [], ◌∷◌, Some, None}
use Rattle.syntax.specs.Trees.{ExprTree, ExprTrees, NumberE, LeastE, TruthE, NullE, ThisE, VarE, ParenE, NotE, NegE, BinaryE, GetE, CallE, NewE, no_exprs, more_exprs, StmtTree, StmtTrees, EmptyS, BlockS, LocalS, SetVarS, SetFieldS, DoS, IfS, IfElseS, WhileS, SyncS, ReturnS, PrintS, StartS, no_stmts, more_stmts, MemberTree, FieldM, CtorM, MethodM, ProgramTree}

-- Heights of expressions and of lists of them.
abbrev mutual
  -- the height of an expression: 1 where it has no parts, else 1 more than its highest part
  pub height : ExprTree → ℕ
  height (NumberE n at) = 1
  height (LeastE at) = 1
  height (TruthE b at) = 1
  height (NullE at) = 1
  height (ThisE at) = 1
  height (VarE n) = 1
  height (ParenE e at) = 1 + height e
  height (NotE e at) = 1 + height e
  height (NegE e at) = 1 + height e
  height (BinaryE op e f at) = 1 + max (height e) (height f)
  height (GetE e n) = 1 + height e
  height (CallE e n args) = 1 + max (height e) (heights args)
  height (NewE n args at) = 1 + heights args

  -- the height of the highest of some expressions, or 0
  pub heights : ExprTrees → ℕ
  heights no_exprs = 0
  heights (more_exprs e es) = max (height e) (heights es)

-- Heights of statements and of lists of them.
abbrev mutual
  -- the height of a statement, over the statements and expressions in it; the block of `synchronized` counts as one more
  pub stmt_height : StmtTree → ℕ
  stmt_height (EmptyS at) = 1
  stmt_height (BlockS ss at) = 1 + stmt_heights ss
  stmt_height (LocalS fin ty n e at) = 1 + height e
  stmt_height (SetVarS n e at) = 1 + height e
  stmt_height (SetFieldS e n f at) = 1 + max (height e) (height f)
  stmt_height (DoS e at) = 1 + height e
  stmt_height (IfS e s at) = 1 + max (height e) (stmt_height s)
  stmt_height (IfElseS e s t at) = 1 + max (height e) (max (stmt_height s) (stmt_height t))
  stmt_height (WhileS e s at) = 1 + max (height e) (stmt_height s)
  stmt_height (SyncS l ss at) = 1 + (1 + stmt_heights ss)
  stmt_height (ReturnS None at) = 1
  stmt_height (ReturnS (Some e) at) = 1 + height e
  stmt_height (PrintS e at) = 1 + height e
  stmt_height (StartS e at) = 1 + height e

  -- the height of the highest of some statements, or 0
  pub stmt_heights : StmtTrees → ℕ
  stmt_heights no_stmts = 0
  stmt_heights (more_stmts s ss) = max (stmt_height s) (stmt_heights ss)

-- the height of a member's body, which counts as one block; 0 where there is none
abbrev pub body_height : MemberTree → ℕ
body_height (FieldM f) = 0
body_height (CtorM n params sets) = 0
body_height (MethodM m) = 1 + stmt_heights m.body

-- the height of the highest body of some members, or 0
abbrev pub highest_member : List MemberTree → ℕ
highest_member [] = 0
highest_member (m ∷ ms) = max (body_height m) (highest_member ms)

-- the height of the highest method body of a program, or 0
abbrev pub highest_body : ProgramTree → ℕ
highest_body [] = 0
highest_body (c ∷ cs) = max (highest_member c.members) (highest_body cs)
