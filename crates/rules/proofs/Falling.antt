-- More held paths never give a greater effect.
use Rattle.std.proofs.Common.{◌≡◌, ℕ, Bool, true, false, List, Some, None, refl}
use Rattle.std.specs.Prelude.{Option, slice_get, if◌then◌else◌}
use Rattle.paths.specs.Paths.{PathData}
use Rattle.algebra.specs.declared.basic.Basic.{Basic}
use Rattle.algebra.specs.declared.basic.Basic.TheVariants.{Mover, Atomic, Error}
use Rattle.algebra.specs.HeldPaths.{Held, has_path, with_path}
use Rattle.core_program.specs.Core.{Program, Method, Expr, Exprs, IntE, TruthE, NullE, ThisE, VarE, NotE, NegE, BinaryE, AndE, OrE, GetE, CallE, NewE, no_exprs, and_expr}
use Rattle.core_program.specs.Core.{Stmt, Stmts, EmptyS, BlockS, LocalS, SetVarS, SetFieldS, DoS, IfS, WhileS, SyncS, ReturnS, PrintS, StartS, no_stmts, and_stmt}
use Rattle.core_program.specs.Locks.{path_of}
use Rattle.rules.specs.declared.guard.Guard.{Guard}
use Rattle.rules.specs.declared.guard.Guard.TheVariants.{Final, Free, Named, Unnamed, WriteNamed, WriteUnnamed}
use Rattle.rules.specs.Guards.{guard_of}
use Rattle.rules.specs.Mentions.{paths_of}
use Rattle.rules.specs.Effect.{Assignment, required_paths, write_guarded, access_effect, sync_effect, call_of, expr_effect, exprs_effect, effect, block_effect}
use Rattle.rules.specs.Rules.{IsSubset, AtMost, IsAntitone, IsClosed}
use Rattle.rules.proofs.BasicLemmas.{below_itself, below_error, below_lift, below_chain, seq_mono, join_mono, star_mono, lift_mono}
use Rattle.rules.proofs.SetLemmas.{first, all_part, under_part, with_part, after_part, with_path_part}

-- a choice that falls where the test holds oftener
choice_falls : (h k : Bool) (low high other : Basic) → (h ≡ true → k ≡ true) → AtMost low high → AtMost low other → AtMost (if k then low else other) (if h then high else other)
choice_falls true true low high other part falls least = falls
choice_falls true false low high other part falls least = absurd (let e : false ≡ true = part refl in cc)
choice_falls false true low high other part falls least = least
choice_falls false false low high other part falls least = below_itself other

write_falls : (writes h k : Bool) → (h ≡ true → k ≡ true) → AtMost (write_guarded writes k) (write_guarded writes h)
write_falls false h k part = choice_falls h k Mover Mover Atomic part refl refl
write_falls true h k part = choice_falls h k Atomic Atomic Error part refl refl

access_falls : (writes : Bool) (g : Guard) (H K : Held) → IsSubset H K → AtMost (access_effect writes g K) (access_effect writes g H)
access_falls writes Final H K part = refl
access_falls writes Free H K part = refl
access_falls writes (Named p) H K part = choice_falls (H p) (K p) Mover Mover Error (part p) refl refl
access_falls writes Unnamed H K part = refl
access_falls writes (WriteNamed p) H K part = write_falls writes (H p) (K p) (part p)
access_falls writes WriteUnnamed H K part = below_itself (write_guarded writes false)

-- a synchronized part: its body at the two sets, and with the lock
sync_falls : (h k : Bool) (heldH heldK takenH takenK : Basic) → (h ≡ true → k ≡ true) → AtMost heldK heldH → (k ≡ true → AtMost heldK takenH) → AtMost takenK takenH → AtMost (sync_effect k heldK takenK) (sync_effect h heldH takenH)
sync_falls true true heldH heldK takenH takenK part held mixed taken = held
sync_falls true false heldH heldK takenH takenK part held mixed taken = absurd (let e : false ≡ true = part refl in cc)
sync_falls false true heldH heldK takenH takenK part held mixed taken = below_chain _ _ _ (mixed refl) (below_lift takenH)
sync_falls false false heldH heldK takenH takenK part held mixed taken = lift_mono _ _ taken

module _ (P : Program) (rel : ℕ → List PathData) (A : Assignment) (falling : IsAntitone rel A) where
  call_falls : (m : ℕ) (o : Option PathData) (args : List (Option PathData)) (H K : Held) → IsSubset H K → AtMost (call_of P rel A m o args K) (call_of P rel A m o args H)
  call_falls m o args H K part = choice_falls _ _ _ _ Error
      (all_part _ _ (under_part H K part (rel m) o args) (required_paths (slice_get P.methods m)))
      (falling m _ _ (λ q e. first (has_path (rel m) q) _ e) (under_part H K part (rel m) o args)) (below_error _)

  mutual
    pub expr_falls : (e : Expr) (H K : Held) → IsSubset H K → AtMost (expr_effect P rel A e K) (expr_effect P rel A e H)
    expr_falls (IntE n) H K part = refl
    expr_falls (TruthE b) H K part = refl
    expr_falls NullE H K part = refl
    expr_falls ThisE H K part = refl
    expr_falls (VarE x is_final ty) H K part = below_itself _
    expr_falls (NotE e) H K part = expr_falls e H K part
    expr_falls (NegE e) H K part = expr_falls e H K part
    expr_falls (BinaryE op a b) H K part = seq_mono _ _ _ _ (expr_falls a H K part) (expr_falls b H K part)
    expr_falls (AndE a b) H K part = seq_mono _ _ _ _ (expr_falls a H K part) (expr_falls b H K part)
    expr_falls (OrE a b) H K part = seq_mono _ _ _ _ (expr_falls a H K part) (expr_falls b H K part)
    expr_falls (GetE e f) H K part = seq_mono _ _ _ _ (expr_falls e H K part) (access_falls false (guard_of P f (path_of P e)) H K part)
    expr_falls (CallE e m args) H K part = seq_mono _ _ _ _ (expr_falls e H K part) (seq_mono _ _ _ _ (exprs_fall args H K part) (call_falls m (path_of P e) (paths_of P args) H K part))
    expr_falls (NewE c args) H K part = seq_mono _ _ _ _ (exprs_fall args H K part) refl

    exprs_fall : (es : Exprs) (H K : Held) → IsSubset H K → AtMost (exprs_effect P rel A es K) (exprs_effect P rel A es H)
    exprs_fall no_exprs H K part = refl
    exprs_fall (and_expr e es) H K part = seq_mono _ _ _ _ (expr_falls e H K part) (exprs_fall es H K part)

  mutual
    pub stmt_falls : (s : Stmt) (H K : Held) → IsSubset H K → AtMost (effect P rel A s K) (effect P rel A s H)
    stmt_falls EmptyS H K part = refl
    stmt_falls (BlockS ss) H K part = block_falls ss H K part
    stmt_falls (LocalS x is_final ty e) H K part = seq_mono _ _ _ _ (expr_falls e H K part) refl
    stmt_falls (SetVarS x e) H K part = seq_mono _ _ _ _ (expr_falls e H K part) refl
    stmt_falls (SetFieldS e f g) H K part = seq_mono _ _ _ _ (expr_falls e H K part) (seq_mono _ _ _ _ (expr_falls g H K part) (access_falls true (guard_of P f (path_of P e)) H K part))
    stmt_falls (DoS e drops) H K part = expr_falls e H K part
    stmt_falls (IfS c s t) H K part = seq_mono _ _ _ _ (expr_falls c H K part) (join_mono _ _ _ _ (stmt_falls s H K part) (stmt_falls t H K part))
    stmt_falls (WhileS c s) H K part = seq_mono _ _ _ _ (expr_falls c H K part) (star_mono _ _ (seq_mono _ _ _ _ (stmt_falls s H K part) (expr_falls c H K part)))
    stmt_falls (SyncS p s) H K part = sync_falls (H p) (K p) _ _ _ _ (part p) (stmt_falls s H K part)
        (λ has. stmt_falls s (with_path p H) K (with_path_part H K part p has))
        (stmt_falls s (with_path p H) (with_path p K) (with_part H K part p))
    stmt_falls (ReturnS None) H K part = refl
    stmt_falls (ReturnS (Some e)) H K part = expr_falls e H K part
    stmt_falls (PrintS e) H K part = seq_mono _ _ _ _ (expr_falls e H K part) refl
    stmt_falls (StartS e) H K part = seq_mono _ _ _ _ (expr_falls e H K part) refl

    block_falls : (ss : Stmts) (H K : Held) → IsSubset H K → AtMost (block_effect P rel A ss K) (block_effect P rel A ss H)
    block_falls no_stmts H K part = refl
    block_falls (and_stmt s ss) H K part = seq_mono _ _ _ _ (stmt_falls s H K part) (block_falls ss _ _ (after_part H K part P s))

-- a closed assignment is above the body at any larger set
pub closed_above : (P : Program) (rel : ℕ → List PathData) (A : Assignment) → IsAntitone rel A → IsClosed P rel A → (m : ℕ) (method : Method) → slice_get P.methods m ≡ Some method → (H K : Held)
    → IsSubset H (has_path (rel m)) → IsSubset (has_path method.requires_) H → IsSubset H K → AtMost (effect P rel A method.body K) (A m H)
closed_above P rel A falling closed m method is H K part required larger =
    below_chain (effect P rel A method.body K) (effect P rel A method.body H) (A m H) (stmt_falls P rel A falling method.body H K larger) (closed.bodies m method is H part required)
