-- The effect of a body depends on what is assigned to the methods that it calls alone.
use Rattle.std.proofs.Common.{◌≡◌, ℕ, Bool, true, false, ◌||◌, List, Some, None, refl, ap}
use Rattle.std.specs.Prelude.{Option, slice_get, if◌then◌else◌}
use Rattle.std.specs.List.{list_all}
use Rattle.paths.specs.Paths.{PathData}
use Rattle.algebra.specs.declared.basic.Basic.TheVariants.{Mover, Atomic, Error}
use Rattle.algebra.specs.Basics.{seq_of, join_of, star_of}
use Rattle.algebra.specs.HeldPaths.{Held, with_path}
use Rattle.algebra.proofs.Sequences.{seq_same}
use Rattle.core_program.specs.Core.{Program, Expr, Exprs, IntE, TruthE, NullE, ThisE, VarE, NotE, NegE, BinaryE, AndE, OrE, GetE, CallE, NewE, no_exprs, and_expr}
use Rattle.core_program.specs.Core.{Stmt, Stmts, EmptyS, BlockS, LocalS, SetVarS, SetFieldS, DoS, IfS, WhileS, SyncS, ReturnS, PrintS, StartS, no_stmts, and_stmt}
use Rattle.core_program.specs.Locks.{path_of}
use Rattle.rules.specs.Mentions.{paths_of}
use Rattle.rules.specs.Effect.{Assignment, required_paths, held_under, sync_effect, after_stmt, call_of, access_of, expr_effect, exprs_effect, effect, block_effect}
use Rattle.rules.specs.Called.{expr_calls, exprs_call, stmt_calls, block_calls}

pub first_false : (a b : Bool) → (a || b) ≡ false → a ≡ false
first_false true b e = e
first_false false b e = refl

pub second_false : (a b : Bool) → (a || b) ≡ false → b ≡ false
second_false true b e = absurd (let k : true ≡ false = e in cc)
second_false false b e = e

module _ (P : Program) (rel : ℕ → List PathData) (A B : Assignment) (test : ℕ → Bool) (same : (m : ℕ) → test m ≡ false → (H : Held) → A m H ≡ B m H) where
  call_same : (m : ℕ) (o : Option PathData) (args : List (Option PathData)) (H : Held) → test m ≡ false → call_of P rel A m o args H ≡ call_of P rel B m o args H
  call_same m o args H e = ap (λ b. if list_all (held_under (rel m) o args H) (required_paths (slice_get P.methods m)) then b else Error) (same m e (held_under (rel m) o args H))

  mutual
    expr_same : (e : Expr) (H : Held) → expr_calls test e ≡ false → expr_effect P rel A e H ≡ expr_effect P rel B e H
    expr_same (IntE n) H c = refl
    expr_same (TruthE b) H c = refl
    expr_same NullE H c = refl
    expr_same ThisE H c = refl
    expr_same (VarE x is_final ty) H c = refl
    expr_same (NotE e) H c = expr_same e H c
    expr_same (NegE e) H c = expr_same e H c
    expr_same (BinaryE op a b) H c = seq_same (expr_same a H (first_false (expr_calls test a) (expr_calls test b) c)) (expr_same b H (second_false (expr_calls test a) (expr_calls test b) c))
    expr_same (AndE a b) H c = seq_same (expr_same a H (first_false (expr_calls test a) (expr_calls test b) c)) (expr_same b H (second_false (expr_calls test a) (expr_calls test b) c))
    expr_same (OrE a b) H c = seq_same (expr_same a H (first_false (expr_calls test a) (expr_calls test b) c)) (expr_same b H (second_false (expr_calls test a) (expr_calls test b) c))
    expr_same (GetE e f) H c = ap (λ b. seq_of b (access_of P false f (path_of P e) H)) (expr_same e H c)
    expr_same (CallE e m args) H c =
        let rest = second_false (test m) (expr_calls test e || exprs_call test args) c in
        seq_same (expr_same e H (first_false (expr_calls test e) (exprs_call test args) rest))
        (seq_same (exprs_same args H (second_false (expr_calls test e) (exprs_call test args) rest))
        (call_same m (path_of P e) (paths_of P args) H (first_false (test m) (expr_calls test e || exprs_call test args) c)))
    expr_same (NewE x args) H c = ap (λ b. seq_of b Mover) (exprs_same args H c)

    exprs_same : (es : Exprs) (H : Held) → exprs_call test es ≡ false → exprs_effect P rel A es H ≡ exprs_effect P rel B es H
    exprs_same no_exprs H c = refl
    exprs_same (and_expr e es) H c = seq_same (expr_same e H (first_false (expr_calls test e) (exprs_call test es) c)) (exprs_same es H (second_false (expr_calls test e) (exprs_call test es) c))

  mutual
    pub stmt_same : (s : Stmt) (H : Held) → stmt_calls test s ≡ false → effect P rel A s H ≡ effect P rel B s H
    stmt_same EmptyS H c = refl
    stmt_same (BlockS ss) H c = block_same ss H c
    stmt_same (LocalS x is_final ty e) H c = ap (λ b. seq_of b Mover) (expr_same e H c)
    stmt_same (SetVarS x e) H c = ap (λ b. seq_of b Mover) (expr_same e H c)
    stmt_same (SetFieldS e f g) H c = seq_same (expr_same e H (first_false (expr_calls test e) (expr_calls test g) c))
        (ap (λ b. seq_of b (access_of P true f (path_of P e) H)) (expr_same g H (second_false (expr_calls test e) (expr_calls test g) c)))
    stmt_same (DoS e drops) H c = expr_same e H c
    stmt_same (IfS b s t) H c =
        let rest = second_false (expr_calls test b) (stmt_calls test s || stmt_calls test t) c in
        let same_s = stmt_same s H (first_false (stmt_calls test s) (stmt_calls test t) rest) in
        let same_t = stmt_same t H (second_false (stmt_calls test s) (stmt_calls test t) rest) in
        seq_same (expr_same b H (first_false (expr_calls test b) (stmt_calls test s || stmt_calls test t) c)) (λ i. join_of (same_s i) (same_t i))
    stmt_same (WhileS b s) H c =
        let same_b = expr_same b H (first_false (expr_calls test b) (stmt_calls test s) c) in
        let same_s = stmt_same s H (second_false (expr_calls test b) (stmt_calls test s) c) in
        seq_same same_b (λ i. star_of (seq_of (same_s i) (same_b i)))
    stmt_same (SyncS p s) H c =
        let held = stmt_same s H c in
        let taken = stmt_same s (with_path p H) c in
        λ i. sync_effect (H p) (held i) (taken i)
    stmt_same (ReturnS None) H c = refl
    stmt_same (ReturnS (Some e)) H c = expr_same e H c
    stmt_same (PrintS e) H c = ap (λ b. seq_of b Atomic) (expr_same e H c)
    stmt_same (StartS e) H c = ap (λ b. seq_of b Atomic) (expr_same e H c)

    block_same : (ss : Stmts) (H : Held) → block_calls test ss ≡ false → block_effect P rel A ss H ≡ block_effect P rel B ss H
    block_same no_stmts H c = refl
    block_same (and_stmt s ss) H c = seq_same (stmt_same s H (first_false (stmt_calls test s) (block_calls test ss) c)) (block_same ss (after_stmt P s H) (second_false (stmt_calls test s) (block_calls test ss) c))
