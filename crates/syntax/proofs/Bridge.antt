-- What the variants that hold a vector of their own type are as plain data.
use Rattle.std.proofs.Common.{◌≡◌, ℕ, map, refl, ◌∙◌, ap}
use Rattle.std.specs.declared.alloc.Global.{Global}
use Rattle.std.specs.declared.vec.Vec.{Vec}
use Rattle.std.specs.declared.boxed.Box.{Box}
use Rattle.syntax.specs.declared.tree.Expr.{Expr, Row_of-Expr, end_of-Expr, more_of-Expr, items-the_row-Expr, items_hidden-the_row-Expr-0}
use Rattle.syntax.specs.declared.tree.Expr.TheBlock.{hidden-the_row-Expr-0}
use Rattle.syntax.specs.declared.tree.Expr.TheVariants as E
use Rattle.syntax.specs.declared.tree.Name.{Name}
use Rattle.syntax.specs.declared.tree.Lock.{Lock}
use Rattle.syntax.specs.declared.tree.Stmt.{Stmt, Row_of-Stmt, end_of-Stmt, more_of-Stmt, items-the_row-Stmt, items_hidden-the_row-Stmt-0}
use Rattle.syntax.specs.declared.tree.Stmt.TheBlock.{hidden-the_row-Stmt-0}
use Rattle.syntax.specs.declared.tree.Stmt.TheVariants as S
use Rattle.syntax.specs.Trees.{CallE, NewE, more_exprs, BlockS, SyncS, more_stmts}
use Rattle.syntax.specs.Views.{expr_tree, exprs_of, exprs_from, stmt_of, stmts_of, stmts_from, lock_of}

exprs_are : {n : _} → (k : Row_of-Expr n) → exprs_of k ≡ exprs_from (map expr_tree (items-the_row-Expr n k))
exprs_are end_of-Expr = refl
exprs_are (more_of-Expr e rest) = ap (more_exprs (expr_tree e)) (exprs_are rest)

pub exprs_held : (args : Vec Expr Global) → exprs_of (hidden-the_row-Expr-0 args) ≡ exprs_from (map expr_tree args.items)
exprs_held args = exprs_are (hidden-the_row-Expr-0 args) ∙ ap (λ z. exprs_from (map expr_tree z)) (items_hidden-the_row-Expr-0 args)

pub view_call : (e : Box Expr Global) (n : Name) (args : Vec Expr Global) → expr_tree (E.Call e n args) ≡ CallE (expr_tree e.value) n (exprs_from (map expr_tree args.items))
view_call e n args = ap (CallE (expr_tree e.value) n) (exprs_held args)

pub view_new : (n : Name) (args : Vec Expr Global) (at : ℕ) → expr_tree (E.New n args at) ≡ NewE n (exprs_from (map expr_tree args.items)) at
view_new n args at = ap (λ z. NewE n z at) (exprs_held args)

stmts_are : {n : _} → (k : Row_of-Stmt n) → stmts_of k ≡ stmts_from (map stmt_of (items-the_row-Stmt n k))
stmts_are end_of-Stmt = refl
stmts_are (more_of-Stmt s rest) = ap (more_stmts (stmt_of s)) (stmts_are rest)

pub stmts_held : (ss : Vec Stmt Global) → stmts_of (hidden-the_row-Stmt-0 ss) ≡ stmts_from (map stmt_of ss.items)
stmts_held ss = stmts_are (hidden-the_row-Stmt-0 ss) ∙ ap (λ z. stmts_from (map stmt_of z)) (items_hidden-the_row-Stmt-0 ss)

pub view_block : (ss : Vec Stmt Global) (at : ℕ) → stmt_of (S.Block ss at) ≡ BlockS (stmts_from (map stmt_of ss.items)) at
view_block ss at = ap (λ z. BlockS z at) (stmts_held ss)

pub view_sync : (l : Lock) (ss : Vec Stmt Global) (at : ℕ) → stmt_of (S.Sync l ss at) ≡ SyncS (lock_of l) (stmts_from (map stmt_of ss.items)) at
view_sync l ss at = ap (λ z. SyncS (lock_of l) z at) (stmts_held ss)
