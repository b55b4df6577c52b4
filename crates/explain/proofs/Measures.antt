-- Measures of expressions and statements, by which the walk ends.
use Rattle.std.proofs.Common.{◌≡◌, ℕ, ◌+◌, ◌<◌, zero, suc, List, [], ◌∷◌, length, get_or, ap, arith}
use Rattle.core_program.specs.declared.tree.CoreExpr.{CoreExpr}
use Rattle.core_program.specs.declared.tree.CoreStmt.{CoreStmt}
use Rattle.core_program.specs.Core.{Expr, Exprs, NotE, NegE, BinaryE, AndE, OrE, GetE, CallE, NewE, no_exprs, and_expr}
use Rattle.core_program.specs.Core.{Stmt, Stmts, BlockS, IfS, WhileS, SyncS, no_stmts, and_stmt}
use Rattle.core_program.specs.Views.{expr_of, exprs_from, stmt_of, stmts_from}

abbrev mutual
  -- more by three than that of the parts
  pub expr_measure : Expr → ℕ
  expr_measure (NotE e) = 3 + expr_measure e
  expr_measure (NegE e) = 3 + expr_measure e
  expr_measure (BinaryE op a b) = 3 + (expr_measure a + expr_measure b)
  expr_measure (AndE a b) = 3 + (expr_measure a + expr_measure b)
  expr_measure (OrE a b) = 3 + (expr_measure a + expr_measure b)
  expr_measure (GetE e f) = 3 + expr_measure e
  expr_measure (CallE e m args) = 3 + (expr_measure e + exprs_measure args)
  expr_measure (NewE c args) = 3 + exprs_measure args
  expr_measure _ = 1

  -- more by two than that of each expression in it
  pub exprs_measure : Exprs → ℕ
  exprs_measure no_exprs = 0
  exprs_measure (and_expr e es) = 2 + (expr_measure e + exprs_measure es)

abbrev mutual
  -- more by three than that of the parts
  pub stmt_measure : Stmt → ℕ
  stmt_measure (BlockS ss) = 3 + stmts_measure ss
  stmt_measure (IfS c s t) = 3 + (stmt_measure s + stmt_measure t)
  stmt_measure (WhileS c s) = 3 + stmt_measure s
  stmt_measure (SyncS p s) = 3 + stmt_measure s
  stmt_measure _ = 1

  -- more by two than that of each statement in it
  pub stmts_measure : Stmts → ℕ
  stmts_measure no_stmts = 0
  stmts_measure (and_stmt s ss) = 2 + (stmt_measure s + stmts_measure ss)

pub expr_lighter : (es : List CoreExpr) (i : ℕ) (e : CoreExpr) → i < length es → e ≡ get_or es i e → 1 + expr_measure (expr_of e) < exprs_measure (exprs_from es)
expr_lighter [] i e below is = absurd (omega (arith, below))
expr_lighter (x ∷ es) zero e below is = let same = ap (λ z. expr_measure (expr_of z)) is in omega (arith, same)
expr_lighter (x ∷ es) (suc i) e below is = let later = expr_lighter es i e (omega (arith, below)) is in omega (arith, later)

pub stmt_lighter : (ss : List CoreStmt) (i : ℕ) (s : CoreStmt) → i < length ss → s ≡ get_or ss i s → 1 + stmt_measure (stmt_of s) < stmts_measure (stmts_from ss)
stmt_lighter [] i s below is = absurd (omega (arith, below))
stmt_lighter (x ∷ ss) zero s below is = let same = ap (λ z. stmt_measure (stmt_of z)) is in omega (arith, same)
stmt_lighter (x ∷ ss) (suc i) s below is = let later = stmt_lighter ss i s (omega (arith, below)) is in omega (arith, later)
