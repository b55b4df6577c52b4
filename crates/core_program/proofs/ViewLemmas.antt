-- Lists in memory and their plain data: an equation for each variant that holds a list of its own type.
use Rattle.std.proofs.Common.{◌≡◌, ℕ, refl, ap, ◌∙◌}
use Rattle.std.specs.Prelude.{Vec, Box}
use Rattle.std.specs.declared.alloc.Global.{Global}
use Rattle.core_program.specs.declared.tree.CoreExpr.{CoreExpr, Call, New, Row_of-CoreExpr, end_of-CoreExpr, more_of-CoreExpr, items-the_row-CoreExpr, items_hidden-the_row-CoreExpr-0}
use Rattle.core_program.specs.declared.tree.CoreExpr.TheBlock.{hidden-the_row-CoreExpr-0}
use Rattle.core_program.specs.declared.tree.CoreStmt.{CoreStmt, Block, Row_of-CoreStmt, end_of-CoreStmt, more_of-CoreStmt, items-the_row-CoreStmt, items_hidden-the_row-CoreStmt-0}
use Rattle.core_program.specs.declared.tree.CoreStmt.TheBlock.{hidden-the_row-CoreStmt-0}
use Rattle.core_program.specs.Core.{CallE, NewE, BlockS, and_expr, and_stmt}
use Rattle.core_program.specs.Views.{expr_of, exprs_of, exprs_from, stmt_of, stmts_of, stmts_from}

-- a row of arguments is the list of them
pub exprs_of-row : {n : _} → (row : Row_of-CoreExpr n) → exprs_of row ≡ exprs_from (items-the_row-CoreExpr n row)
exprs_of-row end_of-CoreExpr = refl
exprs_of-row (more_of-CoreExpr a rest) = ap (and_expr (expr_of a)) (exprs_of-row rest)

-- a row of statements is the list of them
pub stmts_of-row : {n : _} → (row : Row_of-CoreStmt n) → stmts_of row ≡ stmts_from (items-the_row-CoreStmt n row)
stmts_of-row end_of-CoreStmt = refl
stmts_of-row (more_of-CoreStmt a rest) = ap (and_stmt (stmt_of a)) (stmts_of-row rest)

pub expr_of-Call : (e : Box CoreExpr Global) (m : ℕ) (args : Vec CoreExpr Global) → expr_of (Call e m args) ≡ CallE (expr_of e.value) m (exprs_from args.items)
expr_of-Call e m args = ap (CallE (expr_of e.value) m) (exprs_of-row (hidden-the_row-CoreExpr-0 args) ∙ ap exprs_from (items_hidden-the_row-CoreExpr-0 args))

pub expr_of-New : (class : ℕ) (args : Vec CoreExpr Global) → expr_of (New class args) ≡ NewE class (exprs_from args.items)
expr_of-New class args = ap (NewE class) (exprs_of-row (hidden-the_row-CoreExpr-0 args) ∙ ap exprs_from (items_hidden-the_row-CoreExpr-0 args))

pub stmt_of-Block : (body : Vec CoreStmt Global) → stmt_of (Block body) ≡ BlockS (stmts_from body.items)
stmt_of-Block body = ap BlockS (stmts_of-row (hidden-the_row-CoreStmt-0 body) ∙ ap stmts_from (items_hidden-the_row-CoreStmt-0 body))
