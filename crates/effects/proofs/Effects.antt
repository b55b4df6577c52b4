-- The rule of a part over the effects of the parts that it is made of is its effect.
use Rattle.std.proofs.Common.{◌≡◌, ℕ, Bool, true, false, List, Some, None, if◌then◌else◌, refl, ◌∙◌, ap}
use Rattle.paths.specs.Paths.{PathData}
use Rattle.algebra.specs.declared.basic.Basic.{Basic}
use Rattle.algebra.specs.declared.basic.Basic.TheVariants.{Const, Mover, Atomic}
use Rattle.algebra.specs.Basics.{seq_of, lift_of}
use Rattle.algebra.specs.HeldPaths.{Held, with_path}
use Rattle.core_program.specs.Core.{Program, Expr, Exprs, IntE, TruthE, NullE, ThisE, VarE, NotE, NegE, BinaryE, AndE, OrE, GetE, CallE, NewE, no_exprs, and_expr}
use Rattle.core_program.specs.Core.{Stmts, EmptyS, BlockS, LocalS, SetVarS, SetFieldS, DoS, IfS, WhileS, SyncS, ReturnS, PrintS, StartS, no_stmts, and_stmt}
use Rattle.core_program.specs.Locks.{path_of}
use Rattle.rules.specs.Mentions.{paths_of}
use Rattle.rules.specs.Effect.{Assignment, sync_effect, access_of, call_of, after_stmt, expr_effect, exprs_effect, effect, block_effect}
use Rattle.effects.specs.Parts.{Part, ExprP, StmtP, parts_of, args_parts, block_parts}
use Rattle.effects.specs.Rules.{in_sequence, block_value, rule_of}
use Rattle.effects.specs.Effects.{part_effect, effects_of}
use Rattle.algebra.proofs.Sequences.{unit_after, associative}

module _ (P : Program) (rel : ℕ → List PathData) (A : Assignment) where
  args_is : (es : Exprs) (H : Held) → in_sequence (effects_of P rel A (args_parts es)) H ≡ exprs_effect P rel A es H
  args_is no_exprs H = refl
  args_is (and_expr e es) H = ap (λ z. seq_of (expr_effect P rel A e H) z) (args_is es H)

  block_is : (ss : Stmts) (H : Held) → block_value P ss (effects_of P rel A (block_parts ss)) H ≡ block_effect P rel A ss H
  block_is no_stmts H = refl
  block_is (and_stmt s ss) H = ap (λ z. seq_of (effect P rel A s H) z) (block_is ss (after_stmt P s H))

  lock_is : (held : Bool) (a b : Basic) → (if held then a else lift_of b) ≡ sync_effect held a b
  lock_is true a b = refl
  lock_is false a b = refl

  one : (e : Expr) (H : Held) → seq_of (expr_effect P rel A e H) Const ≡ expr_effect P rel A e H
  one e H = unit_after (expr_effect P rel A e H)

  two : (a b : Expr) (H : Held) → seq_of (expr_effect P rel A a H) (seq_of (expr_effect P rel A b H) Const) ≡ seq_of (expr_effect P rel A a H) (expr_effect P rel A b H)
  two a b H = ap (λ z. seq_of (expr_effect P rel A a H) z) (one b H)

  -- the rule over the effects of the parts is the effect
  pub rule_is : (x : Part) (H : Held) → rule_of P rel A x (effects_of P rel A (parts_of x)) H ≡ part_effect P rel A x H
  rule_is (ExprP (IntE n)) H = refl
  rule_is (ExprP (TruthE b)) H = refl
  rule_is (ExprP NullE) H = refl
  rule_is (ExprP ThisE) H = refl
  rule_is (ExprP (VarE x is_final ty)) H = refl
  rule_is (ExprP (NotE e)) H = one e H
  rule_is (ExprP (NegE e)) H = one e H
  rule_is (ExprP (BinaryE op a b)) H = two a b H
  rule_is (ExprP (AndE a b)) H = two a b H
  rule_is (ExprP (OrE a b)) H = two a b H
  rule_is (ExprP (GetE e f)) H = ap (λ z. seq_of z (access_of P false f (path_of P e) H)) (one e H)
  rule_is (ExprP (CallE e m args)) H =
      ap (λ z. seq_of (seq_of (expr_effect P rel A e H) z) (call_of P rel A m (path_of P e) (paths_of P args) H)) (args_is args H)
      ∙ associative (expr_effect P rel A e H) (exprs_effect P rel A args H) (call_of P rel A m (path_of P e) (paths_of P args) H)
  rule_is (ExprP (NewE c args)) H = ap (λ z. seq_of z Mover) (args_is args H)
  rule_is (StmtP EmptyS) H = refl
  rule_is (StmtP (BlockS ss)) H = block_is ss H
  rule_is (StmtP (LocalS x is_final ty e)) H = ap (λ z. seq_of z Mover) (one e H)
  rule_is (StmtP (SetVarS x e)) H = ap (λ z. seq_of z Mover) (one e H)
  rule_is (StmtP (SetFieldS e f g)) H =
      ap (λ z. seq_of z (access_of P true f (path_of P e) H)) (two e g H)
      ∙ associative (expr_effect P rel A e H) (expr_effect P rel A g H) (access_of P true f (path_of P e) H)
  rule_is (StmtP (DoS e drops)) H = one e H
  rule_is (StmtP (IfS c s t)) H = refl
  rule_is (StmtP (WhileS c s)) H = refl
  rule_is (StmtP (SyncS p s)) H = lock_is (H p) (effect P rel A s H) (effect P rel A s (with_path p H))
  rule_is (StmtP (ReturnS None)) H = refl
  rule_is (StmtP (ReturnS (Some e))) H = one e H
  rule_is (StmtP (PrintS e)) H = ap (λ z. seq_of z Atomic) (one e H)
  rule_is (StmtP (StartS e)) H = ap (λ z. seq_of z Atomic) (one e H)
