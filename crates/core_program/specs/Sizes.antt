-- Heights and sizes of expressions and statements.
use Rattle.std.specs.Prelude.{ℕ, ◌+◌, Option, Some, None, max}
use Rattle.core_program.specs.Core.{Expr, Exprs, NotE, NegE, BinaryE, AndE, OrE, GetE, CallE, NewE, no_exprs, and_expr}
use Rattle.core_program.specs.Core.{Stmt, Stmts, EmptyS, BlockS, LocalS, SetVarS, SetFieldS, DoS, IfS, WhileS, SyncS, ReturnS, PrintS, StartS, no_stmts, and_stmt}

-- Heights of expressions and of lists of arguments.
abbrev mutual
  -- the height of an expression: 1 more than that of its highest part, and 1 where it has none
  pub height_of : Expr → ℕ
  height_of (NotE e) = 1 + height_of e
  height_of (NegE e) = 1 + height_of e
  height_of (BinaryE op a b) = 1 + max (height_of a) (height_of b)
  height_of (AndE a b) = 1 + max (height_of a) (height_of b)
  height_of (OrE a b) = 1 + max (height_of a) (height_of b)
  height_of (GetE e f) = 1 + height_of e
  height_of (CallE e m args) = 1 + max (height_of e) (highest_of args)
  height_of (NewE c args) = 1 + highest_of args
  height_of _ = 1

  -- the height of the highest of some arguments, or 0
  pub highest_of : Exprs → ℕ
  highest_of no_exprs = 0
  highest_of (and_expr e es) = max (height_of e) (highest_of es)

-- How many nodes expressions and lists of arguments have.
abbrev mutual
  -- how many nodes an expression has
  pub nodes_of : Expr → ℕ
  nodes_of (NotE e) = 1 + nodes_of e
  nodes_of (NegE e) = 1 + nodes_of e
  nodes_of (BinaryE op a b) = 1 + (nodes_of a + nodes_of b)
  nodes_of (AndE a b) = 1 + (nodes_of a + nodes_of b)
  nodes_of (OrE a b) = 1 + (nodes_of a + nodes_of b)
  nodes_of (GetE e f) = 1 + nodes_of e
  nodes_of (CallE e m args) = 1 + (nodes_of e + nodes_of_each args)
  nodes_of (NewE c args) = 1 + nodes_of_each args
  nodes_of _ = 1

  -- how many nodes some arguments have together
  pub nodes_of_each : Exprs → ℕ
  nodes_of_each no_exprs = 0
  nodes_of_each (and_expr e es) = nodes_of e + nodes_of_each es

-- the height of a returned value
abbrev pub value_height : Option Expr → ℕ
value_height None = 0
value_height (Some e) = height_of e

-- how many nodes a returned value has
abbrev pub value_nodes : Option Expr → ℕ
value_nodes None = 0
value_nodes (Some e) = nodes_of e

-- Heights of statements and of blocks.
abbrev mutual
  -- the height of a statement
  pub stmt_height : Stmt → ℕ
  stmt_height EmptyS = 1
  stmt_height (BlockS ss) = 1 + highest_stmt ss
  stmt_height (LocalS x is_final ty e) = 1 + height_of e
  stmt_height (SetVarS x e) = 1 + height_of e
  stmt_height (SetFieldS e f g) = 1 + max (height_of e) (height_of g)
  stmt_height (DoS e drops) = 1 + height_of e
  stmt_height (IfS c s t) = 1 + max (height_of c) (max (stmt_height s) (stmt_height t))
  stmt_height (WhileS c s) = 1 + max (height_of c) (stmt_height s)
  stmt_height (SyncS p s) = 1 + stmt_height s
  stmt_height (ReturnS e) = 1 + value_height e
  stmt_height (PrintS e) = 1 + height_of e
  stmt_height (StartS e) = 1 + height_of e

  -- the height of the highest statement of a block, or 0
  pub highest_stmt : Stmts → ℕ
  highest_stmt no_stmts = 0
  highest_stmt (and_stmt s ss) = max (stmt_height s) (highest_stmt ss)

-- How many nodes statements and blocks have.
abbrev mutual
  -- how many nodes a statement has
  pub stmt_nodes : Stmt → ℕ
  stmt_nodes EmptyS = 1
  stmt_nodes (BlockS ss) = 1 + stmt_nodes_each ss
  stmt_nodes (LocalS x is_final ty e) = 1 + nodes_of e
  stmt_nodes (SetVarS x e) = 1 + nodes_of e
  stmt_nodes (SetFieldS e f g) = 1 + (nodes_of e + nodes_of g)
  stmt_nodes (DoS e drops) = 1 + nodes_of e
  stmt_nodes (IfS c s t) = 1 + (nodes_of c + (stmt_nodes s + stmt_nodes t))
  stmt_nodes (WhileS c s) = 1 + (nodes_of c + stmt_nodes s)
  stmt_nodes (SyncS p s) = 1 + stmt_nodes s
  stmt_nodes (ReturnS e) = 1 + value_nodes e
  stmt_nodes (PrintS e) = 1 + nodes_of e
  stmt_nodes (StartS e) = 1 + nodes_of e

  -- how many nodes the statements of a block have together
  pub stmt_nodes_each : Stmts → ℕ
  stmt_nodes_each no_stmts = 0
  stmt_nodes_each (and_stmt s ss) = stmt_nodes s + stmt_nodes_each ss
