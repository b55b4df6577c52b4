-- Calls, arguments, blocks and synchronized parts in memory: their effects at a list of held paths.
use Rattle.std.proofs.Common.{◌≡◌, ℕ, Bool, false, List, ◌∷◌, Result, Ok, Err, IfOk, sym, ap, ◌∙◌}
use Rattle.paths.specs.Paths.{PathData}
use Rattle.algebra.specs.declared.basic.Basic.{Basic}
use Rattle.algebra.specs.declared.basic.Basic.TheVariants.{Mover}
use Rattle.algebra.specs.Basics.{seq_of, lift_of}
use Rattle.algebra.specs.HeldPaths.{Held, has_path, with_path}
use Rattle.core_program.specs.declared.tree.CoreExpr.{CoreExpr}
use Rattle.core_program.specs.declared.tree.CoreStmt.{CoreStmt}
use Rattle.core_program.specs.Core.{Program, Expr, Stmt, CallE, NewE, BlockS, SyncS}
use Rattle.core_program.specs.Views.{expr_of, exprs_from, stmt_of, stmts_from}
use Rattle.core_program.specs.Locks.{path_of}
use Rattle.rules.specs.Mentions.{paths_of}
use Rattle.rules.specs.Effect.{Assignment, call_of, expr_effect, exprs_effect, sync_effect, effect, block_effect}

-- a call in memory
pub call_read : (P : Program) (rel : ℕ → List PathData) (A : Assignment) (H : Held) (x : Expr) (r r2 whole : CoreExpr) (m : ℕ) (es es2 all : List CoreExpr) (first passed called inner result : Basic)
    → x ≡ CallE (expr_of whole) m (exprs_from all) → r ≡ whole → r2 ≡ whole → es ≡ all → es2 ≡ all
    → first ≡ expr_effect P rel A (expr_of r) H → passed ≡ exprs_effect P rel A (exprs_from es) H → called ≡ call_of P rel A m (path_of P (expr_of r2)) (paths_of P (exprs_from es2)) H
    → inner ≡ seq_of passed called → result ≡ seq_of first inner → result ≡ expr_effect P rel A x H
call_read P rel A H x r r2 whole m es es2 all first passed called inner result is one two three four f p c i whole_is =
    let f2 : first ≡ expr_effect P rel A (expr_of whole) H = f ∙ ap (λ z. expr_effect P rel A (expr_of z) H) one in
    let p2 : passed ≡ exprs_effect P rel A (exprs_from all) H = p ∙ ap (λ z. exprs_effect P rel A (exprs_from z) H) three in
    let c2 : called ≡ call_of P rel A m (path_of P (expr_of whole)) (paths_of P (exprs_from all)) H =
    c ∙ (λ j. call_of P rel A m (path_of P (expr_of (two j))) (paths_of P (exprs_from (four j))) H) in
    whole_is ∙ (λ j. seq_of (f2 j) ((i ∙ (λ k. seq_of (p2 k) (c2 k))) j)) ∙ ap (λ y. expr_effect P rel A y H) (sym is)

-- a `new` in memory
pub new_read : (P : Program) (rel : ℕ → List PathData) (A : Assignment) (H : Held) (x : Expr) (class : ℕ) (es all : List CoreExpr) (passed result : Basic) → x ≡ NewE class (exprs_from all) → es ≡ all
    → passed ≡ exprs_effect P rel A (exprs_from es) H → result ≡ seq_of passed Mover → result ≡ expr_effect P rel A x H
new_read P rel A H x class es all passed result is one p whole_is =
    whole_is ∙ ap (λ b. seq_of b Mover) (p ∙ ap (λ z. exprs_effect P rel A (exprs_from z) H) one) ∙ ap (λ y. expr_effect P rel A y H) (sym is)

-- a block in memory
pub block_read : {E : Type 0} (P : Program) (rel : ℕ → List PathData) (A : Assignment) (H : Held) (x : Stmt) (ss all : List CoreStmt) (r : Result Basic E) → x ≡ BlockS (stmts_from all) → ss ≡ all
    → IfOk r (λ b. b ≡ block_effect P rel A (stmts_from ss) H) → IfOk r (λ b. b ≡ effect P rel A x H)
block_read P rel A H x ss all (Ok b) is one e = e ∙ ap (λ z. block_effect P rel A (stmts_from z) H) one ∙ ap (λ y. effect P rel A y H) (sym is)
block_read P rel A H x ss all (Err d) is one e = e

-- a synchronized part in memory, whose lock isn't held
pub sync_read : (P : Program) (rel : ℕ → List PathData) (A : Assignment) (held : List PathData) (x : Stmt) (p : PathData) (s whole : CoreStmt) (more slice : List PathData) (test : Bool) (taken result : Basic)
    → x ≡ SyncS p (stmt_of whole) → s ≡ whole → test ≡ has_path held p → test ≡ false → more ≡ p ∷ held → slice ≡ more → taken ≡ effect P rel A (stmt_of s) (has_path slice) → result ≡ lift_of taken
    → result ≡ effect P rel A x (has_path held)
sync_read P rel A held x p s whole more slice test taken result is one tests free two three t whole_is =
    let same : slice ≡ p ∷ held = three ∙ two in
    let t2 : taken ≡ effect P rel A (stmt_of whole) (with_path p (has_path held)) = t ∙ (λ j. effect P rel A (stmt_of (one j)) (has_path (same j))) in
    let none : has_path held p ≡ false = sym tests ∙ free in
    whole_is ∙ ap lift_of t2
    ∙ sym (ap (λ b. sync_effect b (effect P rel A (stmt_of whole) (has_path held)) (effect P rel A (stmt_of whole) (with_path p (has_path held)))) none)
    ∙ ap (λ y. effect P rel A y (has_path held)) (sym is)
