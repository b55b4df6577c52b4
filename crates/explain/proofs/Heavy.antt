-- No step of a part can be moved.
use Rattle.std.proofs.Common.{◌≡◌, ℕ, ◌+◌, Bool, true, false, not, List, [], ◌++◌, Option, Some, None, if◌then◌else◌, refl, ap, ◌∙◌}
use Rattle.std.specs.List.{list_all}
use Rattle.std.proofs.lemmas.Bool.{and_from}
use Rattle.std.proofs.lemmas.List.Folds.{list_all-append}
use Rattle.paths.specs.Paths.{PathData}
use Rattle.algebra.specs.declared.basic.Basic.{Basic}
use Rattle.algebra.specs.declared.basic.Basic.TheVariants.{Mover}
use Rattle.algebra.specs.Basics.{below_of}
use Rattle.algebra.specs.HeldPaths.{Held, with_path}
use Rattle.core_program.specs.Core.{Program, Expr, Exprs, IntE, TruthE, NullE, ThisE, VarE, NotE, NegE, BinaryE, AndE, OrE, GetE, CallE, NewE, no_exprs, and_expr}
use Rattle.core_program.specs.Core.{Stmt, Stmts, EmptyS, BlockS, LocalS, SetVarS, SetFieldS, DoS, IfS, WhileS, SyncS, ReturnS, PrintS, StartS, no_stmts, and_stmt}
use Rattle.core_program.specs.Sizes.{nodes_of, stmt_nodes}
use Rattle.rules.specs.Effect.{Assignment, after_stmt, effect}
use Rattle.effects.specs.Parts.{Part, ExprP, StmtP}
use Rattle.explain.specs.PartEffects.{own_of, lock_effect}
use Rattle.explain.specs.Visits.{Visit, visit, by_lock}
use Rattle.explain.specs.Steps.{of_taken, own_step, expr_steps, exprs_steps, stmt_steps, block_steps, movable_steps}
use Rattle.explain.specs.StepReadings.{own_at}

module _ (P : Program) (rel : ℕ → List PathData) (A : Assignment) where
  -- the part by itself can't be moved
  abbrev pub is_heavy : Visit → Bool
  is_heavy v = not (below_of (own_at P rel A v) Mover)

  pub record Heavy (xs : List Visit) : Type 0 where
    pub is : list_all is_heavy xs ≡ true

  none_heavy : Heavy []
  none_heavy = record { is = refl }

  both : {xs ys : List Visit} → Heavy xs → Heavy ys → Heavy (xs ++ ys)
  both {xs = xs} {ys = ys} first second = record { is = list_all-append is_heavy xs ys ∙ and_from _ _ first.is second.is }

  chosen : (t : Bool) {xs ys : List Visit} → Heavy xs → Heavy ys → Heavy (if t then xs else ys)
  chosen true first second = first
  chosen false first second = second

  alone : (n : ℕ) (x : Part) (H : Held) (loop : Option ℕ) → below_of (own_of P rel A x H) Mover ≡ false → Heavy (visit n x H loop)
  alone n x H loop e = record { is = and_from _ _ (ap not e) refl }

  own_by : (n : ℕ) (x : Part) (H : Held) (loop : Option ℕ) (t : Bool) → below_of (own_of P rel A x H) Mover ≡ t → Heavy (if t then [] else visit n x H loop)
  own_by n x H loop true e = none_heavy
  own_by n x H loop false e = alone n x H loop e

  own : (n : ℕ) (x : Part) (H : Held) (loop : Option ℕ) → Heavy (own_step P rel A n x H loop)
  own n x H loop = own_by n x H loop (below_of (own_of P rel A x H) Mover) refl

  locking : (t : Bool) {held itself under : List Visit} (b : Basic) → Heavy held → ((t ≡ false) → Heavy itself) → Heavy under → Heavy (by_lock t held (of_taken b itself under))
  locking true b first alone second = first
  locking false b first alone second = chosen (below_of b Mover) (alone refl) second

  lock_alone : (n : ℕ) (p : PathData) (s : Stmt) (H : Held) (loop : Option ℕ) → H p ≡ false → Heavy (visit n (StmtP (SyncS p s)) H loop)
  lock_alone n p s H loop free = alone n (StmtP (SyncS p s)) H loop (ap (λ t. below_of (lock_effect t) Mover) free)

  mutual
    expr_heavy : (e : Expr) (n : ℕ) (H : Held) (loop : Option ℕ) → Heavy (expr_steps P rel A e n H loop)
    expr_heavy (IntE v) n H loop = none_heavy
    expr_heavy (TruthE b) n H loop = none_heavy
    expr_heavy NullE n H loop = none_heavy
    expr_heavy ThisE n H loop = none_heavy
    expr_heavy (VarE x is_final ty) n H loop = none_heavy
    expr_heavy (NotE e) n H loop = expr_heavy e (n + 1) H loop
    expr_heavy (NegE e) n H loop = expr_heavy e (n + 1) H loop
    expr_heavy (BinaryE op a b) n H loop = both (expr_heavy a (n + 1) H loop) (expr_heavy b (n + 1 + nodes_of a) H loop)
    expr_heavy (AndE a b) n H loop = both (expr_heavy a (n + 1) H loop) (expr_heavy b (n + 1 + nodes_of a) H loop)
    expr_heavy (OrE a b) n H loop = both (expr_heavy a (n + 1) H loop) (expr_heavy b (n + 1 + nodes_of a) H loop)
    expr_heavy (GetE e f) n H loop = both (expr_heavy e (n + 1) H loop) (own n (ExprP (GetE e f)) H loop)
    expr_heavy (CallE e m args) n H loop = both (expr_heavy e (n + 1) H loop) (both (exprs_heavy args (n + 1 + nodes_of e) H loop) (own n (ExprP (CallE e m args)) H loop))
    expr_heavy (NewE c args) n H loop = exprs_heavy args (n + 1) H loop

    exprs_heavy : (es : Exprs) (n : ℕ) (H : Held) (loop : Option ℕ) → Heavy (exprs_steps P rel A es n H loop)
    exprs_heavy no_exprs n H loop = none_heavy
    exprs_heavy (and_expr e es) n H loop = both (expr_heavy e n H loop) (exprs_heavy es (n + nodes_of e) H loop)

  mutual
    pub stmt_heavy : (s : Stmt) (n : ℕ) (H : Held) (loop : Option ℕ) → Heavy (stmt_steps P rel A s n H loop)
    stmt_heavy EmptyS n H loop = none_heavy
    stmt_heavy (BlockS ss) n H loop = block_heavy ss (n + 1) H loop
    stmt_heavy (LocalS x is_final ty e) n H loop = expr_heavy e (n + 1) H loop
    stmt_heavy (SetVarS x e) n H loop = expr_heavy e (n + 1) H loop
    stmt_heavy (SetFieldS e f g) n H loop = both (expr_heavy e (n + 1) H loop) (both (expr_heavy g (n + 1 + nodes_of e) H loop) (own n (StmtP (SetFieldS e f g)) H loop))
    stmt_heavy (DoS e drops) n H loop = expr_heavy e (n + 1) H loop
    stmt_heavy (IfS c s t) n H loop = both (expr_heavy c (n + 1) H loop) (chosen (below_of (effect P rel A t H) (effect P rel A s H))
        (stmt_heavy s (n + 1 + nodes_of c) H loop) (stmt_heavy t (n + 1 + nodes_of c + stmt_nodes s) H loop))
    stmt_heavy (WhileS c s) n H loop = both (expr_heavy c (n + 1) H (Some n)) (stmt_heavy s (n + 1 + nodes_of c) H (Some n))
    stmt_heavy (SyncS p s) n H loop = locking (H p) (effect P rel A s (with_path p H)) (stmt_heavy s (n + 1) H loop) (lock_alone n p s H loop) (stmt_heavy s (n + 1) (with_path p H) loop)
    stmt_heavy (ReturnS None) n H loop = none_heavy
    stmt_heavy (ReturnS (Some e)) n H loop = expr_heavy e (n + 1) H loop
    stmt_heavy (PrintS e) n H loop = both (expr_heavy e (n + 1) H loop) (own n (StmtP (PrintS e)) H loop)
    stmt_heavy (StartS e) n H loop = both (expr_heavy e (n + 1) H loop) (own n (StmtP (StartS e)) H loop)

    block_heavy : (ss : Stmts) (n : ℕ) (H : Held) (loop : Option ℕ) → Heavy (block_steps P rel A ss n H loop)
    block_heavy no_stmts n H loop = none_heavy
    block_heavy (and_stmt s ss) n H loop = both (stmt_heavy s n H loop) (block_heavy ss (n + stmt_nodes s) (after_stmt P s H) loop)

  pub part_heavy : (x : Part) (n : ℕ) (H : Held) → list_all is_heavy (movable_steps P rel A x n H) ≡ true
  part_heavy (ExprP e) n H = (expr_heavy e n H None).is
  part_heavy (StmtP s) n H = (stmt_heavy s n H None).is
