-- Measures of expressions and statements, by which a walk over them ends.
use Rattle.std.specs.Prelude.{ℕ, ◌+◌}
use Rattle.core_program.specs.Core.{Expr, Exprs, NotE, NegE, BinaryE, AndE, OrE, GetE, CallE, NewE, no_exprs, and_expr}
use Rattle.core_program.specs.Core.{Stmt, Stmts, BlockS, IfS, WhileS, SyncS, no_stmts, and_stmt}

abbrev mutual
  -- more than the weights of all parts
  pub weight_of : Expr → ℕ
  weight_of (NotE e) = 1 + weight_of e
  weight_of (NegE e) = 1 + weight_of e
  weight_of (BinaryE op a b) = 1 + (weight_of a + weight_of b)
  weight_of (AndE a b) = 1 + (weight_of a + weight_of b)
  weight_of (OrE a b) = 1 + (weight_of a + weight_of b)
  weight_of (GetE e f) = 1 + weight_of e
  weight_of (CallE e m args) = 1 + (weight_of e + weights_of args)
  weight_of (NewE c args) = 1 + weights_of args
  weight_of _ = 1

  pub weights_of : Exprs → ℕ
  weights_of no_exprs = 0
  weights_of (and_expr e es) = 1 + (weight_of e + weights_of es)

abbrev mutual
  -- more than the weights of all statements in it; by two where a function of its own goes to them
  pub stmt_weight : Stmt → ℕ
  stmt_weight (BlockS ss) = 1 + stmts_weight ss
  stmt_weight (IfS c s t) = 2 + (stmt_weight s + stmt_weight t)
  stmt_weight (WhileS c s) = 2 + stmt_weight s
  stmt_weight (SyncS p s) = 1 + stmt_weight s
  stmt_weight _ = 1

  -- more by two than that of each, since a block goes to a statement by way of the rest
  pub stmts_weight : Stmts → ℕ
  stmts_weight no_stmts = 0
  stmts_weight (and_stmt s ss) = 2 + (stmt_weight s + stmts_weight ss)
