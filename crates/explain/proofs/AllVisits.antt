-- Each step of a part is one of its visited parts.
use Rattle.std.proofs.Common.{ℕ, ◌+◌, Bool, true, false, List, [], ◌++◌, Option, Some, None, Contains, if◌then◌else◌, ◌⊎◌, inl, inr, arith}
use Rattle.std.proofs.lemmas.List.Elements.{Contains-append_left, Contains-append_right, Contains-append_cases}
use Rattle.paths.specs.Paths.{PathData}
use Rattle.algebra.specs.declared.basic.Basic.{Basic}
use Rattle.algebra.specs.declared.basic.Basic.TheVariants.{Mover}
use Rattle.algebra.specs.Basics.{below_of}
use Rattle.algebra.specs.HeldPaths.{Held, with_path}
use Rattle.core_program.specs.Core.{Program, Expr, Exprs, IntE, TruthE, NullE, ThisE, VarE, NotE, NegE, BinaryE, AndE, OrE, GetE, CallE, NewE, no_exprs, and_expr}
use Rattle.core_program.specs.Core.{Stmt, Stmts, EmptyS, BlockS, LocalS, SetVarS, SetFieldS, DoS, IfS, WhileS, SyncS, ReturnS, PrintS, StartS, no_stmts, and_stmt}
use Rattle.core_program.specs.Sizes.{nodes_of, stmt_nodes}
use Rattle.rules.specs.Effect.{Assignment, after_stmt, effect}
use Rattle.effects.specs.Parts.{Part, ExprP, StmtP}
use Rattle.explain.specs.PartEffects.{own_of}
use Rattle.explain.specs.Visits.{Visit, visit, by_lock, expr_visits, exprs_visits, stmt_visits, block_visits, part_visits}
use Rattle.explain.specs.Steps.{of_taken, own_step, expr_steps, exprs_steps, stmt_steps, block_steps, movable_steps}

-- each of the first list is one of the second
pub record Among (xs ys : List Visit) : Type 0 where
  pub each : (v : Visit) → Contains xs v → Contains ys v

none : {ys : List Visit} → Among [] ys
none = record { each = λ v is. absurd (empty v is) }
  where
    empty : (v : Visit) → Contains [] v → ⊥
    empty v (k, below, is) = omega (arith, below)

itself : {xs : List Visit} → Among xs xs
itself = record { each = λ v is. is }

-- each part among its own
both : {ws bs xs ys : List Visit} → Among ws xs → Among bs ys → Among (ws ++ bs) (xs ++ ys)
both {ws = ws} {bs = bs} {xs = xs} {ys = ys} first second = record { each = λ v is. by v (Contains-append_cases ws bs v is) }
  where
    by : (v : Visit) → Contains ws v ⊎ Contains bs v → Contains (xs ++ ys) v
    by v (inl i) = Contains-append_left xs ys v (first.each v i)
    by v (inr i) = Contains-append_right xs ys v (second.each v i)

-- with more behind it, or before it
before : {ws xs : List Visit} (ys : List Visit) → Among ws xs → Among ws (xs ++ ys)
before {xs = xs} ys first = record { each = λ v is. Contains-append_left xs ys v (first.each v is) }

after : {ws ys : List Visit} (xs : List Visit) → Among ws ys → Among ws (xs ++ ys)
after {ys = ys} xs second = record { each = λ v is. Contains-append_right xs ys v (second.each v is) }

chosen : (t : Bool) {ws bs xs : List Visit} → Among ws xs → Among bs xs → Among (if t then ws else bs) xs
chosen true first second = first
chosen false first second = second

locking : (t : Bool) {held itself under xs ys : List Visit} (b : Basic) (own : List Visit) → Among held xs → Among itself own → Among under ys
    → Among (by_lock t held (of_taken b itself under)) (by_lock t xs ys ++ own)
locking true {xs = xs} b own first alone second = before own first
locking false {ys = ys} b own first alone second = chosen (below_of b Mover) (after ys alone) (before own second)

module _ (P : Program) (rel : ℕ → List PathData) (A : Assignment) where
  own : (n : ℕ) (x : Part) (H : Held) (loop : Option ℕ) → Among (own_step P rel A n x H loop) (visit n x H loop)
  own n x H loop = chosen (below_of (own_of P rel A x H) Mover) none itself

  mutual
    expr_among : (e : Expr) (n : ℕ) (H : Held) (loop : Option ℕ) → Among (expr_steps P rel A e n H loop) (expr_visits e n H loop)
    expr_among (IntE v) n H loop = none
    expr_among (TruthE b) n H loop = none
    expr_among NullE n H loop = none
    expr_among ThisE n H loop = none
    expr_among (VarE x is_final ty) n H loop = none
    expr_among (NotE e) n H loop = before _ (expr_among e (n + 1) H loop)
    expr_among (NegE e) n H loop = before _ (expr_among e (n + 1) H loop)
    expr_among (BinaryE op a b) n H loop = both (expr_among a (n + 1) H loop) (before _ (expr_among b (n + 1 + nodes_of a) H loop))
    expr_among (AndE a b) n H loop = both (expr_among a (n + 1) H loop) (before _ (expr_among b (n + 1 + nodes_of a) H loop))
    expr_among (OrE a b) n H loop = both (expr_among a (n + 1) H loop) (before _ (expr_among b (n + 1 + nodes_of a) H loop))
    expr_among (GetE e f) n H loop = both (expr_among e (n + 1) H loop) (own n (ExprP (GetE e f)) H loop)
    expr_among (CallE e m args) n H loop = both (expr_among e (n + 1) H loop) (both (exprs_among args (n + 1 + nodes_of e) H loop) (own n (ExprP (CallE e m args)) H loop))
    expr_among (NewE c args) n H loop = before _ (exprs_among args (n + 1) H loop)

    exprs_among : (es : Exprs) (n : ℕ) (H : Held) (loop : Option ℕ) → Among (exprs_steps P rel A es n H loop) (exprs_visits es n H loop)
    exprs_among no_exprs n H loop = none
    exprs_among (and_expr e es) n H loop = both (expr_among e n H loop) (exprs_among es (n + nodes_of e) H loop)

  mutual
    stmt_among : (s : Stmt) (n : ℕ) (H : Held) (loop : Option ℕ) → Among (stmt_steps P rel A s n H loop) (stmt_visits P s n H loop)
    stmt_among EmptyS n H loop = none
    stmt_among (BlockS ss) n H loop = before _ (block_among ss (n + 1) H loop)
    stmt_among (LocalS x is_final ty e) n H loop = before _ (expr_among e (n + 1) H loop)
    stmt_among (SetVarS x e) n H loop = before _ (expr_among e (n + 1) H loop)
    stmt_among (SetFieldS e f g) n H loop = both (expr_among e (n + 1) H loop) (both (expr_among g (n + 1 + nodes_of e) H loop) (own n (StmtP (SetFieldS e f g)) H loop))
    stmt_among (DoS e drops) n H loop = before _ (expr_among e (n + 1) H loop)
    stmt_among (IfS c s t) n H loop = both (expr_among c (n + 1) H loop) (chosen (below_of (effect P rel A t H) (effect P rel A s H))
        (before _ (stmt_among s (n + 1 + nodes_of c) H loop)) (after _ (before _ (stmt_among t (n + 1 + nodes_of c + stmt_nodes s) H loop))))
    stmt_among (WhileS c s) n H loop = both (expr_among c (n + 1) H (Some n)) (before _ (stmt_among s (n + 1 + nodes_of c) H (Some n)))
    stmt_among (SyncS p s) n H loop = locking (H p) (effect P rel A s (with_path p H)) (visit n (StmtP (SyncS p s)) H loop)
        (stmt_among s (n + 1) H loop) itself (stmt_among s (n + 1) (with_path p H) loop)
    stmt_among (ReturnS None) n H loop = none
    stmt_among (ReturnS (Some e)) n H loop = before _ (expr_among e (n + 1) H loop)
    stmt_among (PrintS e) n H loop = both (expr_among e (n + 1) H loop) (own n (StmtP (PrintS e)) H loop)
    stmt_among (StartS e) n H loop = both (expr_among e (n + 1) H loop) (own n (StmtP (StartS e)) H loop)

    block_among : (ss : Stmts) (n : ℕ) (H : Held) (loop : Option ℕ) → Among (block_steps P rel A ss n H loop) (block_visits P ss n H loop)
    block_among no_stmts n H loop = none
    block_among (and_stmt s ss) n H loop = both (stmt_among s n H loop) (block_among ss (n + stmt_nodes s) (after_stmt P s H) loop)

  pub part_among : (x : Part) (n : ℕ) (H : Held) (v : Visit) → Contains (movable_steps P rel A x n H) v → Contains (part_visits P x n H) v
  part_among (ExprP e) n H v is = (expr_among e n H None).each v is
  part_among (StmtP s) n H v is = (stmt_among s n H None).each v is
