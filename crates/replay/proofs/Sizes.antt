-- How many nodes parts have, and the bodies of all methods.
use Rattle.std.proofs.Common.{◌≡◌, ℕ, zero, suc, ◌+◌, ◌*◌, ◌≤◌, ◌<◌, List, [], ◌∷◌, Some, sym, ap, subst, arith, length, get_or}
use Rattle.std.specs.Prelude.{slice_get}
use Rattle.std.proofs.lemmas.Option.{none-some, same_Some}
use Rattle.core_program.specs.declared.tree.CoreExpr.{CoreExpr}
use Rattle.core_program.specs.declared.tree.CoreStmt.{CoreStmt}
use Rattle.core_program.specs.declared.program.CoreMethod.{CoreMethod}
use Rattle.core_program.specs.Sizes.{nodes_of, nodes_of_each, stmt_nodes, stmt_nodes_each}
use Rattle.core_program.specs.Views.{expr_of, exprs_from, stmt_of, stmts_from}

abbrev pub all_nodes : List CoreMethod → ℕ
all_nodes [] = 0
all_nodes (m ∷ ms) = stmt_nodes (stmt_of m.body) + all_nodes ms

pub body_in : (ms : List CoreMethod) (k : ℕ) (m : CoreMethod) → slice_get ms k ≡ Some m → stmt_nodes (stmt_of m.body) ≤ all_nodes ms
body_in [] k m e = absurd (none-some m e)
body_in (x ∷ ms) zero m e = let same : stmt_nodes (stmt_of x.body) ≡ stmt_nodes (stmt_of m.body) = ap (λ (y : CoreMethod). stmt_nodes (stmt_of y.body)) (same_Some x m e) in omega (arith, same)
body_in (x ∷ ms) (suc k) m e = let h = body_in ms k m e in omega (arith, h)

pub expr_in : (es : List CoreExpr) (i : ℕ) (e : CoreExpr) → i < length es → e ≡ get_or es i e → nodes_of (expr_of e) ≤ nodes_of_each (exprs_from es)
expr_in [] i e below is = absurd (omega (arith, below))
expr_in (x ∷ es) zero e below is = let same : nodes_of (expr_of e) ≡ nodes_of (expr_of x) = ap (λ y. nodes_of (expr_of y)) is in omega (arith, same)
expr_in (x ∷ es) (suc i) e below is = let h = expr_in es i e (omega (arith, below)) is in omega (arith, h)

pub stmt_in : (ss : List CoreStmt) (i : ℕ) (s : CoreStmt) → i < length ss → s ≡ get_or ss i s → stmt_nodes (stmt_of s) ≤ stmt_nodes_each (stmts_from ss)
stmt_in [] i s below is = absurd (omega (arith, below))
stmt_in (x ∷ ss) zero s below is = let same : stmt_nodes (stmt_of s) ≡ stmt_nodes (stmt_of x) = ap (λ y. stmt_nodes (stmt_of y)) is in omega (arith, same)
stmt_in (x ∷ ss) (suc i) s below is = let h = stmt_in ss i s (omega (arith, below)) is in omega (arith, h)

-- a body with one turn less is smaller than a part with all turns
pub one_turn_less : (turns less all body part : ℕ) → turns ≡ less + 1 → body ≤ all → less * (4 * all) + 4 * body < turns * (4 * all) + 1
one_turn_less turns less all body part is low = subst (λ t. less * (4 * all) + 4 * body < t * (4 * all) + 1) (sym is) (omega (arith, low))
