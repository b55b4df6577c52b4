-- Measures of expressions and statements, by which a walk over them ends.
use Rattle.std.specs.Prelude.{ℕ, ◌+◌}
use Rattle.core_program.specs.Core.{Expr, Exprs, NotE, NegE, BinaryE, AndE, OrE, GetE, CallE, NewE, no_exprs, and_expr}
use Rattle.core_program.specs.Core.{Stmt, Stmts, BlockS, IfS, WhileS, SyncS, no_stmts, and_stmt}

abbrev mutual
  -- more than that of each part, by two where an action on one operand is put down with it
  pub expr_measure : Expr → ℕ
  expr_measure (NotE e) = 2 + expr_measure e
  expr_measure (NegE e) = 2 + expr_measure e
  expr_measure (BinaryE op a b) = 1 + (expr_measure a + expr_measure b)
  expr_measure (AndE a b) = 1 + (expr_measure a + expr_measure b)
  expr_measure (OrE a b) = 1 + (expr_measure a + expr_measure b)
  expr_measure (GetE e f) = 2 + expr_measure e
  expr_measure (CallE e m args) = 1 + (expr_measure e + exprs_measure args)
  expr_measure (NewE c args) = 1 + exprs_measure args
  expr_measure _ = 1

  pub exprs_measure : Exprs → ℕ
  exprs_measure no_exprs = 0
  exprs_measure (and_expr e es) = 1 + (expr_measure e + exprs_measure es)

abbrev mutual
  -- more by one than that of each statement in it
  pub stmt_measure : Stmt → ℕ
  stmt_measure (BlockS ss) = 2 + stmts_measure ss
  stmt_measure (IfS c s t) = 2 + (stmt_measure s + stmt_measure t)
  stmt_measure (WhileS c s) = 2 + stmt_measure s
  stmt_measure (SyncS p s) = 2 + stmt_measure s
  stmt_measure _ = 1

  pub stmts_measure : Stmts → ℕ
  stmts_measure no_stmts = 0
  stmts_measure (and_stmt s ss) = 2 + (stmt_measure s + stmts_measure ss)
