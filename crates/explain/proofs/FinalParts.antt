-- A body with a variable final, as it is made in memory.
use Rattle.std.proofs.Common.{◌≡◌, ℕ, ◌+◌, ◌<◌, ◌≤◌, List, [], ◌∷◌, ◌++◌, drop, length, get_or, sym, ap, ◌∙◌, append_assoc, append-nil}
use Rattle.std.proofs.Math.ListN.{drop_of_length-le}
use Rattle.std.specs.Prelude.{Vec, Box}
use Rattle.std.specs.declared.alloc.Global.{Global}
use Rattle.base.proofs.Lists.{next_drop}
use Rattle.core_program.proofs.ViewLemmas.{expr_of-Call, expr_of-New, stmt_of-Block}
use Rattle.core_program.specs.declared.tree.CoreExpr.{CoreExpr, Call, New}
use Rattle.core_program.specs.declared.tree.CoreStmt.{CoreStmt, Block}
use Rattle.core_program.specs.Core.{Expr, Exprs, CallE, NewE, BlockS, and_expr, and_stmt}
use Rattle.core_program.specs.Views.{expr_of, exprs_from, stmt_of, stmts_from}
use Rattle.explain.specs.Finalising.{final_expr, final_exprs, final_stmt, final_stmts}

pub call_final : (x m : ℕ) (whole made : CoreExpr) (receiver : Box CoreExpr Global) (args : Vec CoreExpr Global) (first : Expr) (rest : Exprs) → whole ≡ Call receiver m args → expr_of made ≡ CallE first m rest
    → first ≡ final_expr x (expr_of receiver.value) → rest ≡ final_exprs x (exprs_from args.items) → expr_of made ≡ final_expr x (expr_of whole)
call_final x m whole made receiver args first rest is made_is one all =
    made_is ∙ (λ i. CallE (one i) m (all i)) ∙ sym (ap (final_expr x) (ap expr_of is ∙ expr_of-Call receiver m args))

pub new_final : (x class : ℕ) (whole made : CoreExpr) (args : Vec CoreExpr Global) (all : Exprs) → whole ≡ New class args → expr_of made ≡ NewE class all → all ≡ final_exprs x (exprs_from args.items)
    → expr_of made ≡ final_expr x (expr_of whole)
new_final x class whole made args all is made_is same = made_is ∙ ap (NewE class) same ∙ sym (ap (final_expr x) (ap expr_of is ∙ expr_of-New class args))

pub block_final : (x : ℕ) (whole : CoreStmt) (body made : Vec CoreStmt Global) → whole ≡ Block body → stmts_from made.items ≡ final_stmts x (stmts_from body.items)
    → stmt_of (Block made) ≡ final_stmt x (stmt_of whole)
block_final x whole body made is all = stmt_of-Block made ∙ ap BlockS all ∙ sym (ap (final_stmt x) (ap stmt_of is ∙ stmt_of-Block body))

-- ---- arguments and statements of a block, one after the other

module _ (x : ℕ) (es : List CoreExpr) where
  -- whatever is made of those from a place on completes what is made of those before
  abbrev pub AreMadeSoFar : ℕ → List CoreExpr → Type 0
  AreMadeSoFar i made = (more : List CoreExpr) → exprs_from more ≡ final_exprs x (exprs_from (drop i es)) → exprs_from (made ++ more) ≡ final_exprs x (exprs_from es)

  pub none_made : (made : List CoreExpr) → made ≡ [] → AreMadeSoFar 0 made
  none_made made none more is = ap (λ l. exprs_from (l ++ more)) none ∙ is

  pub one_made : (i : ℕ) (e new : CoreExpr) (made : List CoreExpr) → i < length es → e ≡ get_or es i e → expr_of new ≡ final_expr x (expr_of e) → AreMadeSoFar i made → AreMadeSoFar (i + 1) (made ++ new ∷ [])
  one_made i e new made below at is given more rest =
      ap exprs_from (append_assoc made (new ∷ []) more)
      ∙ given (new ∷ more) ((λ j. and_expr (is j) (rest j)) ∙ sym (ap (λ l. final_exprs x (exprs_from l)) (next_drop es i e below at)))

  pub all_made : (i : ℕ) (made : List CoreExpr) → length es ≤ i → AreMadeSoFar i made → exprs_from made ≡ final_exprs x (exprs_from es)
  all_made i made past given = ap exprs_from (sym (append-nil made)) ∙ given [] (sym (ap (λ l. final_exprs x (exprs_from l)) (drop_of_length-le es past)))

module _ (x : ℕ) (ss : List CoreStmt) where
  abbrev pub AreStmtsMade : ℕ → List CoreStmt → Type 0
  AreStmtsMade i made = (more : List CoreStmt) → stmts_from more ≡ final_stmts x (stmts_from (drop i ss)) → stmts_from (made ++ more) ≡ final_stmts x (stmts_from ss)

  pub no_stmt_made : (made : List CoreStmt) → made ≡ [] → AreStmtsMade 0 made
  no_stmt_made made none more is = ap (λ l. stmts_from (l ++ more)) none ∙ is

  pub one_stmt_made : (i : ℕ) (s new : CoreStmt) (made : List CoreStmt) → i < length ss → s ≡ get_or ss i s → stmt_of new ≡ final_stmt x (stmt_of s) → AreStmtsMade i made → AreStmtsMade (i + 1) (made ++ new ∷ [])
  one_stmt_made i s new made below at is given more rest =
      ap stmts_from (append_assoc made (new ∷ []) more)
      ∙ given (new ∷ more) ((λ j. and_stmt (is j) (rest j)) ∙ sym (ap (λ l. final_stmts x (stmts_from l)) (next_drop ss i s below at)))

  pub all_stmts_made : (i : ℕ) (made : List CoreStmt) → length ss ≤ i → AreStmtsMade i made → stmts_from made ≡ final_stmts x (stmts_from ss)
  all_stmts_made i made past given = ap stmts_from (sym (append-nil made)) ∙ given [] (sym (ap (λ l. final_stmts x (stmts_from l)) (drop_of_length-le ss past)))
