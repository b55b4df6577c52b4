-- The steps of a part that can't be moved past those of other threads.
use Rattle.std.specs.Prelude.{ℕ, ◌+◌, List, [], ◌++◌, Option, Some, None, if◌then◌else◌}
use Rattle.paths.specs.Paths.{PathData}
use Rattle.algebra.specs.declared.basic.Basic.{Basic}
use Rattle.algebra.specs.declared.basic.Basic.TheVariants.{Mover}
use Rattle.algebra.specs.Basics.{below_of}
use Rattle.algebra.specs.HeldPaths.{Held, with_path}
use Rattle.core_program.specs.Core.{Program, Expr, Exprs, IntE, TruthE, NullE, ThisE, VarE, NotE, NegE, BinaryE, AndE, OrE, GetE, CallE, NewE, no_exprs, and_expr}
use Rattle.core_program.specs.Core.{Stmt, Stmts, EmptyS, BlockS, LocalS, SetVarS, SetFieldS, DoS, IfS, WhileS, SyncS, ReturnS, PrintS, StartS, no_stmts, and_stmt}
use Rattle.core_program.specs.Sizes.{nodes_of, stmt_nodes}
use Rattle.rules.specs.Effect.{Assignment, after_stmt, effect}
use Rattle.effects.specs.Parts.{Part, ExprP, StmtP}
use Rattle.explain.specs.PartEffects.{own_of}
use Rattle.explain.specs.Visits.{Visit, visit, by_lock}

-- the steps of the branch with the greater effect; of the first where the two are equal
abbrev pub of_greater : Basic → Basic → List Visit → List Visit → List Visit
of_greater first second xs ys = if below_of second first then xs else ys

-- the steps of a synchronized part that takes its lock: itself alone, where its body can be moved; else those of the body
abbrev pub of_taken : Basic → List Visit → List Visit → List Visit
of_taken body itself movable_steps = if below_of body Mover then itself else movable_steps

module _ (P : Program) (rel : ℕ → List PathData) (A : Assignment) where
  -- a part by itself, where it can't be moved
  abbrev pub own_step : ℕ → Part → Held → Option ℕ → List Visit
  own_step n part H loop = if below_of (own_of P rel A part H) Mover then [] else visit n part H loop

  abbrev mutual
    -- the steps of an expression, in the order in which they are done
    pub expr_steps : Expr → ℕ → Held → Option ℕ → List Visit
    expr_steps (IntE v) n H loop = []
    expr_steps (TruthE b) n H loop = []
    expr_steps NullE n H loop = []
    expr_steps ThisE n H loop = []
    expr_steps (VarE x is_final ty) n H loop = []
    expr_steps (NotE e) n H loop = expr_steps e (n + 1) H loop
    expr_steps (NegE e) n H loop = expr_steps e (n + 1) H loop
    expr_steps (BinaryE op a b) n H loop = expr_steps a (n + 1) H loop ++ expr_steps b (n + 1 + nodes_of a) H loop
    expr_steps (AndE a b) n H loop = expr_steps a (n + 1) H loop ++ expr_steps b (n + 1 + nodes_of a) H loop
    expr_steps (OrE a b) n H loop = expr_steps a (n + 1) H loop ++ expr_steps b (n + 1 + nodes_of a) H loop
    expr_steps (GetE e f) n H loop = expr_steps e (n + 1) H loop ++ own_step n (ExprP (GetE e f)) H loop
    expr_steps (CallE e m args) n H loop = expr_steps e (n + 1) H loop ++ (exprs_steps args (n + 1 + nodes_of e) H loop ++ own_step n (ExprP (CallE e m args)) H loop)
    expr_steps (NewE c args) n H loop = exprs_steps args (n + 1) H loop

    -- those of arguments, one after the other
    pub exprs_steps : Exprs → ℕ → Held → Option ℕ → List Visit
    exprs_steps no_exprs n H loop = []
    exprs_steps (and_expr e es) n H loop = expr_steps e n H loop ++ exprs_steps es (n + nodes_of e) H loop

  -- those of a returned value
  abbrev pub value_steps : Option Expr → ℕ → Held → Option ℕ → List Visit
  value_steps None n H loop = []
  value_steps (Some e) n H loop = expr_steps e n H loop

  abbrev mutual
    -- the steps of a statement; of an `if` those of its greater branch alone
    pub stmt_steps : Stmt → ℕ → Held → Option ℕ → List Visit
    stmt_steps EmptyS n H loop = []
    stmt_steps (BlockS ss) n H loop = block_steps ss (n + 1) H loop
    stmt_steps (LocalS x is_final ty e) n H loop = expr_steps e (n + 1) H loop
    stmt_steps (SetVarS x e) n H loop = expr_steps e (n + 1) H loop
    stmt_steps (SetFieldS e f g) n H loop = expr_steps e (n + 1) H loop ++ (expr_steps g (n + 1 + nodes_of e) H loop ++ own_step n (StmtP (SetFieldS e f g)) H loop)
    stmt_steps (DoS e drops) n H loop = expr_steps e (n + 1) H loop
    stmt_steps (IfS c s t) n H loop = expr_steps c (n + 1) H loop ++ of_greater (effect P rel A s H) (effect P rel A t H)
        (stmt_steps s (n + 1 + nodes_of c) H loop) (stmt_steps t (n + 1 + nodes_of c + stmt_nodes s) H loop)
    stmt_steps (WhileS c s) n H loop = expr_steps c (n + 1) H (Some n) ++ stmt_steps s (n + 1 + nodes_of c) H (Some n)
    stmt_steps (SyncS p s) n H loop = by_lock (H p) (stmt_steps s (n + 1) H loop)
        (of_taken (effect P rel A s (with_path p H)) (visit n (StmtP (SyncS p s)) H loop) (stmt_steps s (n + 1) (with_path p H) loop))
    stmt_steps (ReturnS e) n H loop = value_steps e (n + 1) H loop
    stmt_steps (PrintS e) n H loop = expr_steps e (n + 1) H loop ++ own_step n (StmtP (PrintS e)) H loop
    stmt_steps (StartS e) n H loop = expr_steps e (n + 1) H loop ++ own_step n (StmtP (StartS e)) H loop

    -- those of the statements of a block, each statement with the set that those before it leave
    pub block_steps : Stmts → ℕ → Held → Option ℕ → List Visit
    block_steps no_stmts n H loop = []
    block_steps (and_stmt s ss) n H loop = stmt_steps s n H loop ++ block_steps ss (n + stmt_nodes s) (after_stmt P s H) loop

  -- the steps of a part that no loop repeats
  abbrev pub movable_steps : Part → ℕ → Held → List Visit
  movable_steps (ExprP e) n H = expr_steps e n H None
  movable_steps (StmtP s) n H = stmt_steps s n H None
