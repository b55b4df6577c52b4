-- Measures of expressions and statements, by which their elaboration ends.
use Rattle.std.proofs.Common.{◌≡◌, ℕ, ◌+◌, ◌<◌, zero, suc, List, [], ◌∷◌, map, length, get_or, ap, arith}
use Rattle.syntax.specs.declared.tree.Expr.{Expr}
use Rattle.syntax.specs.declared.tree.Stmt.{Stmt}
use Rattle.syntax.specs.Trees.{ExprTree, ExprTrees, ParenE, NotE, NegE, BinaryE, GetE, CallE, NewE, no_exprs, more_exprs}
use Rattle.syntax.specs.Trees.{StmtTree, StmtTrees, BlockS, IfS, IfElseS, WhileS, SyncS, no_stmts, more_stmts}
use Rattle.syntax.specs.Views.{expr_tree, exprs_from, stmt_of, stmts_from}

abbrev mutual
  -- more by three than that of the parts
  pub expr_measure : ExprTree → ℕ
  expr_measure (ParenE e at) = 3 + expr_measure e
  expr_measure (NotE e at) = 3 + expr_measure e
  expr_measure (NegE e at) = 3 + expr_measure e
  expr_measure (BinaryE op a b at) = 3 + (expr_measure a + expr_measure b)
  expr_measure (GetE e n) = 3 + expr_measure e
  expr_measure (CallE e n args) = 3 + (expr_measure e + exprs_measure args)
  expr_measure (NewE n args at) = 3 + exprs_measure args
  expr_measure _ = 1

  -- more than that of each expression in it
  pub exprs_measure : ExprTrees → ℕ
  exprs_measure no_exprs = 0
  exprs_measure (more_exprs e es) = 1 + (expr_measure e + exprs_measure es)

abbrev mutual
  -- more by three than that of the parts
  pub stmt_measure : StmtTree → ℕ
  stmt_measure (BlockS ss at) = 3 + stmts_measure ss
  stmt_measure (IfS e s at) = 3 + stmt_measure s
  stmt_measure (IfElseS e s u at) = 3 + (stmt_measure s + stmt_measure u)
  stmt_measure (WhileS e s at) = 3 + stmt_measure s
  stmt_measure (SyncS l ss at) = 3 + stmts_measure ss
  stmt_measure _ = 1

  -- more than that of each statement in it
  pub stmts_measure : StmtTrees → ℕ
  stmts_measure no_stmts = 0
  stmts_measure (more_stmts s ss) = 1 + (stmt_measure s + stmts_measure ss)

pub expr_lighter : (es : List Expr) (i : ℕ) (e : Expr) → i < length es → e ≡ get_or es i e
    → expr_measure (expr_tree e) < exprs_measure (exprs_from (map expr_tree es))
expr_lighter [] i e below is = absurd (omega (arith, below))
expr_lighter (x ∷ es) zero e below is = let same = ap (λ z. expr_measure (expr_tree z)) is in omega (arith, same)
expr_lighter (x ∷ es) (suc i) e below is = let later = expr_lighter es i e (omega (arith, below)) is in omega (arith, later)

pub stmt_lighter : (ss : List Stmt) (i : ℕ) (s : Stmt) → i < length ss → s ≡ get_or ss i s
    → stmt_measure (stmt_of s) < stmts_measure (stmts_from (map stmt_of ss))
stmt_lighter [] i s below is = absurd (omega (arith, below))
stmt_lighter (x ∷ ss) zero s below is = let same = ap (λ z. stmt_measure (stmt_of z)) is in omega (arith, same)
stmt_lighter (x ∷ ss) (suc i) s below is = let later = stmt_lighter ss i s (omega (arith, below)) is in omega (arith, later)
