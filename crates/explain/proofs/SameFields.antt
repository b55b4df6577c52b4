-- The effect of a body depends on what fields are and on what methods require alone, of all that a program has.
use Rattle.std.proofs.Common.{◌≡◌, ℕ, zero, suc, Bool, true, false, List, [], ◌∷◌, map, Some, None, refl, ap, ◌∙◌, if◌then◌else◌}
use Rattle.std.specs.Prelude.{slice_get}
use Rattle.std.specs.List.{list_all}
use Rattle.paths.specs.Paths.{PathData, extended_some}
use Rattle.algebra.specs.declared.basic.Basic.TheVariants.{Atomic, Error, Mover}
use Rattle.algebra.specs.Basics.{seq_of, join_of, star_of}
use Rattle.algebra.specs.HeldPaths.{Held, with_path}
use Rattle.algebra.proofs.Sequences.{seq_same}
use Rattle.core_program.specs.declared.program.CoreMethod.{CoreMethod}
use Rattle.core_program.specs.declared.types.CoreType.TheVariants.{Int, Boolean, Class}
use Rattle.core_program.specs.Core.{Program, Expr, Exprs, IntE, TruthE, NullE, ThisE, VarE, NotE, NegE, BinaryE, AndE, OrE, GetE, CallE, NewE, no_exprs, and_expr}
use Rattle.core_program.specs.Core.{Stmt, Stmts, EmptyS, BlockS, LocalS, SetVarS, SetFieldS, DoS, IfS, WhileS, SyncS, ReturnS, PrintS, StartS, no_stmts, and_stmt}
use Rattle.core_program.specs.Locks.{path_of, leads_on}
use Rattle.core_program.specs.Views.{method_of}
use Rattle.rules.specs.Guards.{field_guard}
use Rattle.rules.specs.Mentions.{paths_of}
use Rattle.rules.specs.Effect.{Assignment, required_paths, held_under, sync_effect, after_local, after_stmt, access_effect, access_of, call_of, expr_effect, exprs_effect, effect, block_effect}

-- of methods that require the same, in their order, each requires the same
pub required_same : (made methods : List CoreMethod) → map (λ (m : CoreMethod). m.requires_.items) made ≡ map (λ (m : CoreMethod). m.requires_.items) methods
    → (m : ℕ) → required_paths (slice_get (map method_of made) m) ≡ required_paths (slice_get (map method_of methods) m)
required_same [] [] e m = refl
required_same [] (y ∷ ys) e m = absurd cc
required_same (x ∷ xs) [] e m = absurd cc
required_same (x ∷ xs) (y ∷ ys) e zero = let first : x.requires_.items ≡ y.requires_.items = cc in first
required_same (x ∷ xs) (y ∷ ys) e (suc m) =
    let rest : map (λ (m : CoreMethod). m.requires_.items) xs ≡ map (λ (m : CoreMethod). m.requires_.items) ys = cc in required_same xs ys rest m

module _ (P Q : Program) (rel : ℕ → List PathData) (A : Assignment) (fields : P.fields ≡ Q.fields) (required : (m : ℕ) → required_paths (slice_get P.methods m) ≡ required_paths (slice_get Q.methods m)) where
  path_same : (e : Expr) → path_of P e ≡ path_of Q e
  path_same (IntE n) = refl
  path_same (TruthE b) = refl
  path_same NullE = refl
  path_same ThisE = refl
  path_same (VarE x false ty) = refl
  path_same (VarE x true Int) = refl
  path_same (VarE x true Boolean) = refl
  path_same (VarE x true (Class c)) = refl
  path_same (NotE e) = refl
  path_same (NegE e) = refl
  path_same (BinaryE op a b) = refl
  path_same (AndE a b) = refl
  path_same (OrE a b) = refl
  path_same (GetE e f) = λ i. if leads_on (slice_get (fields i) f) then extended_some (path_same e i) (f ∷ []) else None
  path_same (CallE e m args) = refl
  path_same (NewE c args) = refl

  paths_same : (es : Exprs) → paths_of P es ≡ paths_of Q es
  paths_same no_exprs = refl
  paths_same (and_expr e es) = λ i. path_same e i ∷ paths_same es i

  access_same : (writes : Bool) (f : ℕ) (e : Expr) (H : Held) → access_of P writes f (path_of P e) H ≡ access_of Q writes f (path_of Q e) H
  access_same writes f e H = λ i. access_effect writes (field_guard (slice_get (fields i) f) (path_same e i)) H

  call_same : (m : ℕ) (e : Expr) (args : Exprs) (H : Held) → call_of P rel A m (path_of P e) (paths_of P args) H ≡ call_of Q rel A m (path_of Q e) (paths_of Q args) H
  call_same m e args H =
      λ i. if list_all (held_under (rel m) (path_same e i) (paths_same args i) H) (required m i) then A m (held_under (rel m) (path_same e i) (paths_same args i) H) else Error

  after_same : (s : Stmt) (H : Held) → after_stmt P s H ≡ after_stmt Q s H
  after_same EmptyS H = refl
  after_same (BlockS ss) H = refl
  after_same (LocalS x false ty e) H = refl
  after_same (LocalS x true ty e) H = ap (after_local H x) (path_same e)
  after_same (SetVarS x e) H = refl
  after_same (SetFieldS e f g) H = refl
  after_same (DoS e drops) H = refl
  after_same (IfS c s t) H = refl
  after_same (WhileS c s) H = refl
  after_same (SyncS p s) H = refl
  after_same (ReturnS e) H = refl
  after_same (PrintS e) H = refl
  after_same (StartS e) H = refl

  mutual
    expr_same : (e : Expr) (H : Held) → expr_effect P rel A e H ≡ expr_effect Q rel A e H
    expr_same (IntE n) H = refl
    expr_same (TruthE b) H = refl
    expr_same NullE H = refl
    expr_same ThisE H = refl
    expr_same (VarE x is_final ty) H = refl
    expr_same (NotE e) H = expr_same e H
    expr_same (NegE e) H = expr_same e H
    expr_same (BinaryE op a b) H = seq_same (expr_same a H) (expr_same b H)
    expr_same (AndE a b) H = seq_same (expr_same a H) (expr_same b H)
    expr_same (OrE a b) H = seq_same (expr_same a H) (expr_same b H)
    expr_same (GetE e f) H = seq_same (expr_same e H) (access_same false f e H)
    expr_same (CallE e m args) H = seq_same (expr_same e H) (seq_same (exprs_same args H) (call_same m e args H))
    expr_same (NewE c args) H = ap (λ b. seq_of b Mover) (exprs_same args H)

    exprs_same : (es : Exprs) (H : Held) → exprs_effect P rel A es H ≡ exprs_effect Q rel A es H
    exprs_same no_exprs H = refl
    exprs_same (and_expr e es) H = seq_same (expr_same e H) (exprs_same es H)

  mutual
    pub effect_same : (s : Stmt) (H : Held) → effect P rel A s H ≡ effect Q rel A s H
    effect_same EmptyS H = refl
    effect_same (BlockS ss) H = block_same ss H
    effect_same (LocalS x is_final ty e) H = ap (λ b. seq_of b Mover) (expr_same e H)
    effect_same (SetVarS x e) H = ap (λ b. seq_of b Mover) (expr_same e H)
    effect_same (SetFieldS e f g) H = seq_same (expr_same e H) (seq_same (expr_same g H) (access_same true f e H))
    effect_same (DoS e drops) H = expr_same e H
    effect_same (IfS c s t) H = let one = effect_same s H in let other = effect_same t H in seq_same (expr_same c H) (λ i. join_of (one i) (other i))
    effect_same (WhileS c s) H = let test = expr_same c H in let turn = effect_same s H in seq_same test (λ i. star_of (seq_of (turn i) (test i)))
    effect_same (SyncS p s) H = let held = effect_same s H in let taken = effect_same s (with_path p H) in λ i. sync_effect (H p) (held i) (taken i)
    effect_same (ReturnS None) H = refl
    effect_same (ReturnS (Some e)) H = expr_same e H
    effect_same (PrintS e) H = ap (λ b. seq_of b Atomic) (expr_same e H)
    effect_same (StartS e) H = ap (λ b. seq_of b Atomic) (expr_same e H)

    block_same : (ss : Stmts) (H : Held) → block_effect P rel A ss H ≡ block_effect Q rel A ss H
    block_same no_stmts H = refl
    block_same (and_stmt s ss) H = seq_same (effect_same s H) (block_same ss (after_stmt P s H) ∙ ap (block_effect Q rel A ss) (after_same s H))
