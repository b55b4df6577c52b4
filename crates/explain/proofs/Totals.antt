-- The steps of a part, in sequence, weigh as much as the part.
use Rattle.std.proofs.Common.{◌≡◌, ℕ, ◌+◌, Bool, true, false, List, [], ◌∷◌, ◌++◌, Option, Some, None, if◌then◌else◌, refl, sym, ap, ◌∙◌}
use Rattle.paths.specs.Paths.{PathData}
use Rattle.algebra.specs.declared.basic.Basic.{Basic}
use Rattle.algebra.specs.declared.basic.Basic.TheVariants.{Const, Mover, Atomic}
use Rattle.algebra.specs.Basics.{below_of, seq_of, join_of, star_of, lift_of}
use Rattle.algebra.specs.HeldPaths.{Held, with_path}
use Rattle.algebra.proofs.Sequences.{associative, unit_after, unit_before}
use Rattle.core_program.specs.Core.{Program, Expr, Exprs, IntE, TruthE, NullE, ThisE, VarE, NotE, NegE, BinaryE, AndE, OrE, GetE, CallE, NewE, no_exprs, and_expr}
use Rattle.core_program.specs.Core.{Stmt, Stmts, EmptyS, BlockS, LocalS, SetVarS, SetFieldS, DoS, IfS, WhileS, SyncS, ReturnS, PrintS, StartS, no_stmts, and_stmt}
use Rattle.core_program.specs.Sizes.{nodes_of, stmt_nodes}
use Rattle.rules.specs.Effect.{Assignment, after_stmt, variable_effect, sync_effect, expr_effect, exprs_effect, effect, block_effect}
use Rattle.effects.specs.Parts.{Part, ExprP, StmtP}
use Rattle.explain.specs.PartEffects.{own_of, effect_of_part, lock_effect}
use Rattle.explain.specs.Visits.{Visit, visit, by_lock}
use Rattle.explain.specs.Steps.{of_greater, of_taken, own_step, expr_steps, exprs_steps, stmt_steps, block_steps, movable_steps}
use Rattle.explain.specs.StepReadings.{own_at}
use Rattle.explain.proofs.Weights.{weight, repeated, weight_seq, repeated_seq, repeated_mover, repeated_light, repeated_join, repeated_loop, repeated_lift}

module _ (P : Program) (rel : ℕ → List PathData) (A : Assignment) where
  -- a step with its loop
  abbrev pub charge : Visit → Basic
  charge v = repeated v.loop (own_at P rel A v)

  -- steps in sequence
  abbrev pub charged : List Visit → Basic
  charged [] = Const
  charged (v ∷ vs) = seq_of (charge v) (charged vs)

  -- the list weighs as much as a part with this effect, which this loop repeats
  pub record Weighs (loop : Option ℕ) (xs : List Visit) (b : Basic) : Type 0 where
    pub is : weight (charged xs) ≡ weight (repeated loop b)

  charged_both : (xs ys : List Visit) → charged (xs ++ ys) ≡ seq_of (charged xs) (charged ys)
  charged_both [] ys = sym (unit_before (charged ys))
  charged_both (x ∷ xs) ys = ap (seq_of (charge x)) (charged_both xs ys) ∙ sym (associative (charge x) (charged xs) (charged ys))

  -- parts in sequence
  both : {loop : Option ℕ} {xs ys : List Visit} {a b : Basic} → Weighs loop xs a → Weighs loop ys b → Weighs loop (xs ++ ys) (seq_of a b)
  both {loop = loop} {xs = xs} {ys = ys} {a = a} {b = b} first second = record {
    is = ap weight (charged_both xs ys) ∙ weight_seq (charged xs) (charged ys) ∙ (λ i. seq_of (first.is i) (second.is i)) ∙ repeated_seq loop a b;
  }

  -- nothing weighs as what is const or can be moved
  nothing : (loop : Option ℕ) → Weighs loop [] Const
  nothing (Some k) = record { is = refl }
  nothing None = record { is = refl }

  light_variable : (loop : Option ℕ) (is_final : Bool) → Weighs loop [] (variable_effect is_final)
  light_variable (Some k) true = record { is = refl }
  light_variable (Some k) false = record { is = refl }
  light_variable None true = record { is = refl }
  light_variable None false = record { is = refl }

  -- a part with a mover behind it
  moved : {loop : Option ℕ} {xs : List Visit} {a : Basic} → Weighs loop xs a → Weighs loop xs (seq_of a Mover)
  moved {loop = loop} {xs = xs} {a = a} first = record { is = first.is ∙ repeated_mover loop a }

  -- a part alone, and only where it can't be moved
  alone : (n : ℕ) (x : Part) (H : Held) (loop : Option ℕ) → Weighs loop (visit n x H loop) (own_of P rel A x H)
  alone n x H loop = record { is = ap weight (unit_after (repeated loop (own_of P rel A x H))) }

  own_by : (n : ℕ) (x : Part) (H : Held) (loop : Option ℕ) (t : Bool) → below_of (own_of P rel A x H) Mover ≡ t
      → Weighs loop (if t then [] else visit n x H loop) (own_of P rel A x H)
  own_by n x H loop true e = record { is = repeated_light loop (own_of P rel A x H) ∙ ap (λ t. weight (repeated loop (if t then own_of P rel A x H else Const))) e }
  own_by n x H loop false e = alone n x H loop

  own : (n : ℕ) (x : Part) (H : Held) (loop : Option ℕ) → Weighs loop (own_step P rel A n x H loop) (own_of P rel A x H)
  own n x H loop = own_by n x H loop (below_of (own_of P rel A x H) Mover) refl

  -- the greater branch
  branches_by : {loop : Option ℕ} {xs ys : List Visit} {a b : Basic} (t : Bool) → below_of b a ≡ t → Weighs loop xs a → Weighs loop ys b → Weighs loop (if t then xs else ys) (join_of a b)
  branches_by {loop = loop} {a = a} {b = b} true e first second = record { is = first.is ∙ sym (repeated_join loop a b ∙ ap (λ t. if t then weight (repeated loop a) else weight (repeated loop b)) e) }
  branches_by {loop = loop} {a = a} {b = b} false e first second = record { is = second.is ∙ sym (repeated_join loop a b ∙ ap (λ t. if t then weight (repeated loop a) else weight (repeated loop b)) e) }

  branches : {loop : Option ℕ} {xs ys : List Visit} {a b : Basic} → Weighs loop xs a → Weighs loop ys b → Weighs loop (of_greater a b xs ys) (join_of a b)
  branches {a = a} {b = b} first second = branches_by (below_of b a) refl first second

  -- a loop
  repeats : {loop : Option ℕ} {k : ℕ} {xs ys : List Visit} {c s : Basic} → Weighs (Some k) xs c → Weighs (Some k) ys s → Weighs loop (xs ++ ys) (seq_of c (star_of (seq_of s c)))
  repeats {loop = loop} {xs = xs} {ys = ys} {c = c} {s = s} first second = record {
    is = ap weight (charged_both xs ys) ∙ weight_seq (charged xs) (charged ys) ∙ (λ i. seq_of (first.is i) (second.is i)) ∙ repeated_loop loop c s;
  }

  -- a synchronized part, by whether its lock is held already
  taken_by : {loop : Option ℕ} {itself under : List Visit} {b : Basic} (t : Bool) → below_of b Mover ≡ t → Weighs loop itself Atomic → Weighs loop under b
      → Weighs loop (if t then itself else under) (lift_of b)
  taken_by {loop = loop} {b = b} true e first second = record { is = first.is ∙ sym (repeated_lift loop b ∙ ap (λ t. if t then weight (repeated loop Atomic) else weight (repeated loop b)) e) }
  taken_by {loop = loop} {b = b} false e first second = record { is = second.is ∙ sym (repeated_lift loop b ∙ ap (λ t. if t then weight (repeated loop Atomic) else weight (repeated loop b)) e) }

  locking : {loop : Option ℕ} {held itself under : List Visit} {a b : Basic} (t : Bool) → Weighs loop held a → ((t ≡ false) → Weighs loop itself Atomic) → Weighs loop under b
      → Weighs loop (by_lock t held (of_taken b itself under)) (sync_effect t a b)
  locking true first alone second = first
  locking {b = b} false first alone second = taken_by (below_of b Mover) refl (alone refl) second

  lock_alone : (n : ℕ) (p : PathData) (s : Stmt) (H : Held) (loop : Option ℕ) → H p ≡ false → Weighs loop (visit n (StmtP (SyncS p s)) H loop) Atomic
  lock_alone n p s H loop free = record { is = (alone n (StmtP (SyncS p s)) H loop).is ∙ ap (λ t. weight (repeated loop (lock_effect t))) free }

  mutual
    expr_weighs : (e : Expr) (n : ℕ) (H : Held) (loop : Option ℕ) → Weighs loop (expr_steps P rel A e n H loop) (expr_effect P rel A e H)
    expr_weighs (IntE v) n H loop = nothing loop
    expr_weighs (TruthE b) n H loop = nothing loop
    expr_weighs NullE n H loop = nothing loop
    expr_weighs ThisE n H loop = nothing loop
    expr_weighs (VarE x is_final ty) n H loop = light_variable loop is_final
    expr_weighs (NotE e) n H loop = expr_weighs e (n + 1) H loop
    expr_weighs (NegE e) n H loop = expr_weighs e (n + 1) H loop
    expr_weighs (BinaryE op a b) n H loop = both (expr_weighs a (n + 1) H loop) (expr_weighs b (n + 1 + nodes_of a) H loop)
    expr_weighs (AndE a b) n H loop = both (expr_weighs a (n + 1) H loop) (expr_weighs b (n + 1 + nodes_of a) H loop)
    expr_weighs (OrE a b) n H loop = both (expr_weighs a (n + 1) H loop) (expr_weighs b (n + 1 + nodes_of a) H loop)
    expr_weighs (GetE e f) n H loop = both (expr_weighs e (n + 1) H loop) (own n (ExprP (GetE e f)) H loop)
    expr_weighs (CallE e m args) n H loop = both (expr_weighs e (n + 1) H loop) (both (exprs_weigh args (n + 1 + nodes_of e) H loop) (own n (ExprP (CallE e m args)) H loop))
    expr_weighs (NewE c args) n H loop = moved (exprs_weigh args (n + 1) H loop)

    exprs_weigh : (es : Exprs) (n : ℕ) (H : Held) (loop : Option ℕ) → Weighs loop (exprs_steps P rel A es n H loop) (exprs_effect P rel A es H)
    exprs_weigh no_exprs n H loop = nothing loop
    exprs_weigh (and_expr e es) n H loop = both (expr_weighs e n H loop) (exprs_weigh es (n + nodes_of e) H loop)

  mutual
    pub stmt_weighs : (s : Stmt) (n : ℕ) (H : Held) (loop : Option ℕ) → Weighs loop (stmt_steps P rel A s n H loop) (effect P rel A s H)
    stmt_weighs EmptyS n H loop = nothing loop
    stmt_weighs (BlockS ss) n H loop = block_weighs ss (n + 1) H loop
    stmt_weighs (LocalS x is_final ty e) n H loop = moved (expr_weighs e (n + 1) H loop)
    stmt_weighs (SetVarS x e) n H loop = moved (expr_weighs e (n + 1) H loop)
    stmt_weighs (SetFieldS e f g) n H loop = both (expr_weighs e (n + 1) H loop) (both (expr_weighs g (n + 1 + nodes_of e) H loop) (own n (StmtP (SetFieldS e f g)) H loop))
    stmt_weighs (DoS e drops) n H loop = expr_weighs e (n + 1) H loop
    stmt_weighs (IfS c s t) n H loop =
        both (expr_weighs c (n + 1) H loop) (branches (stmt_weighs s (n + 1 + nodes_of c) H loop) (stmt_weighs t (n + 1 + nodes_of c + stmt_nodes s) H loop))
    stmt_weighs (WhileS c s) n H loop = repeats (expr_weighs c (n + 1) H (Some n)) (stmt_weighs s (n + 1 + nodes_of c) H (Some n))
    stmt_weighs (SyncS p s) n H loop =
        locking (H p) (stmt_weighs s (n + 1) H loop) (lock_alone n p s H loop) (stmt_weighs s (n + 1) (with_path p H) loop)
    stmt_weighs (ReturnS None) n H loop = nothing loop
    stmt_weighs (ReturnS (Some e)) n H loop = expr_weighs e (n + 1) H loop
    stmt_weighs (PrintS e) n H loop = both (expr_weighs e (n + 1) H loop) (own n (StmtP (PrintS e)) H loop)
    stmt_weighs (StartS e) n H loop = both (expr_weighs e (n + 1) H loop) (own n (StmtP (StartS e)) H loop)

    block_weighs : (ss : Stmts) (n : ℕ) (H : Held) (loop : Option ℕ) → Weighs loop (block_steps P rel A ss n H loop) (block_effect P rel A ss H)
    block_weighs no_stmts n H loop = nothing loop
    block_weighs (and_stmt s ss) n H loop = both (stmt_weighs s n H loop) (block_weighs ss (n + stmt_nodes s) (after_stmt P s H) loop)

  pub part_weighs : (x : Part) (n : ℕ) (H : Held) → weight (charged (movable_steps P rel A x n H)) ≡ weight (effect_of_part P rel A x H)
  part_weighs (ExprP e) n H = (expr_weighs e n H None).is
  part_weighs (StmtP s) n H = (stmt_weighs s n H None).is
