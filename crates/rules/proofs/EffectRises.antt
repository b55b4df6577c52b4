-- A greater assignment never gives a smaller effect.
use Rattle.std.proofs.Common.{ℕ, Bool, true, false, List, Some, None, refl}
use Rattle.std.specs.Prelude.{Option, slice_get, if◌then◌else◌}
use Rattle.std.specs.List.{list_all}
use Rattle.paths.specs.Paths.{PathData}
use Rattle.algebra.specs.declared.basic.Basic.{Basic}
use Rattle.algebra.specs.declared.basic.Basic.TheVariants.{Error}
use Rattle.algebra.specs.HeldPaths.{Held, has_path, with_path}
use Rattle.core_program.specs.Core.{Program, Expr, Exprs, IntE, TruthE, NullE, ThisE, VarE, NotE, NegE, BinaryE, AndE, OrE, GetE, CallE, NewE, no_exprs, and_expr}
use Rattle.core_program.specs.Core.{Stmt, Stmts, EmptyS, BlockS, LocalS, SetVarS, SetFieldS, DoS, IfS, WhileS, SyncS, ReturnS, PrintS, StartS, no_stmts, and_stmt}
use Rattle.core_program.specs.Locks.{path_of}
use Rattle.rules.specs.Mentions.{paths_of}
use Rattle.rules.specs.Effect.{Assignment, required_paths, held_under, sync_effect, after_stmt, call_of, expr_effect, exprs_effect, effect, block_effect}
use Rattle.rules.specs.Rules.{IsSubset, AtMost}
use Rattle.rules.proofs.BasicLemmas.{below_itself, seq_mono, join_mono, star_mono, lift_mono}
use Rattle.rules.proofs.SetLemmas.{first}

choice_rises : (t : Bool) (low high : Basic) → AtMost low high → AtMost (if t then low else Error) (if t then high else Error)
choice_rises true low high rises = rises
choice_rises false low high rises = refl

sync_rises : (h : Bool) (held held2 taken taken2 : Basic) → AtMost held held2 → AtMost taken taken2 → AtMost (sync_effect h held taken) (sync_effect h held2 taken2)
sync_rises true held held2 taken taken2 first second = first
sync_rises false held held2 taken taken2 first second = lift_mono _ _ second

module _ (P : Program) (rel : ℕ → List PathData) (A B : Assignment) (above : (m : ℕ) (H : Held) → IsSubset H (has_path (rel m)) → AtMost (A m H) (B m H)) where
  call_rises : (m : ℕ) (o : Option PathData) (args : List (Option PathData)) (H : Held) → AtMost (call_of P rel A m o args H) (call_of P rel B m o args H)
  call_rises m o args H = choice_rises (list_all (held_under (rel m) o args H) (required_paths (slice_get P.methods m))) _ _
      (above m (held_under (rel m) o args H) (λ q e. first (has_path (rel m) q) _ e))

  mutual
    pub expr_rises : (e : Expr) (H : Held) → AtMost (expr_effect P rel A e H) (expr_effect P rel B e H)
    expr_rises (IntE n) H = refl
    expr_rises (TruthE b) H = refl
    expr_rises NullE H = refl
    expr_rises ThisE H = refl
    expr_rises (VarE x is_final ty) H = below_itself _
    expr_rises (NotE e) H = expr_rises e H
    expr_rises (NegE e) H = expr_rises e H
    expr_rises (BinaryE op a b) H = seq_mono _ _ _ _ (expr_rises a H) (expr_rises b H)
    expr_rises (AndE a b) H = seq_mono _ _ _ _ (expr_rises a H) (expr_rises b H)
    expr_rises (OrE a b) H = seq_mono _ _ _ _ (expr_rises a H) (expr_rises b H)
    expr_rises (GetE e f) H = seq_mono _ _ _ _ (expr_rises e H) (below_itself _)
    expr_rises (CallE e m args) H = seq_mono _ _ _ _ (expr_rises e H) (seq_mono _ _ _ _ (exprs_rise args H) (call_rises m (path_of P e) (paths_of P args) H))
    expr_rises (NewE c args) H = seq_mono _ _ _ _ (exprs_rise args H) refl

    exprs_rise : (es : Exprs) (H : Held) → AtMost (exprs_effect P rel A es H) (exprs_effect P rel B es H)
    exprs_rise no_exprs H = refl
    exprs_rise (and_expr e es) H = seq_mono _ _ _ _ (expr_rises e H) (exprs_rise es H)

  mutual
    pub stmt_rises : (s : Stmt) (H : Held) → AtMost (effect P rel A s H) (effect P rel B s H)
    stmt_rises EmptyS H = refl
    stmt_rises (BlockS ss) H = block_rises ss H
    stmt_rises (LocalS x is_final ty e) H = seq_mono _ _ _ _ (expr_rises e H) refl
    stmt_rises (SetVarS x e) H = seq_mono _ _ _ _ (expr_rises e H) refl
    stmt_rises (SetFieldS e f g) H = seq_mono _ _ _ _ (expr_rises e H) (seq_mono _ _ _ _ (expr_rises g H) (below_itself _))
    stmt_rises (DoS e drops) H = expr_rises e H
    stmt_rises (IfS c s t) H = seq_mono _ _ _ _ (expr_rises c H) (join_mono _ _ _ _ (stmt_rises s H) (stmt_rises t H))
    stmt_rises (WhileS c s) H = seq_mono _ _ _ _ (expr_rises c H) (star_mono _ _ (seq_mono _ _ _ _ (stmt_rises s H) (expr_rises c H)))
    stmt_rises (SyncS p s) H = sync_rises (H p) _ _ _ _ (stmt_rises s H) (stmt_rises s (with_path p H))
    stmt_rises (ReturnS None) H = refl
    stmt_rises (ReturnS (Some e)) H = expr_rises e H
    stmt_rises (PrintS e) H = seq_mono _ _ _ _ (expr_rises e H) refl
    stmt_rises (StartS e) H = seq_mono _ _ _ _ (expr_rises e H) refl

    block_rises : (ss : Stmts) (H : Held) → AtMost (block_effect P rel A ss H) (block_effect P rel B ss H)
    block_rises no_stmts H = refl
    block_rises (and_stmt s ss) H = seq_mono _ _ _ _ (stmt_rises s H) (block_rises ss (after_stmt P s H))
