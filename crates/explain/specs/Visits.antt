-- A walk through a body: which of its parts it comes to, in which order, and with which held paths.
use Rattle.std.specs.Prelude.{ℕ, ◌+◌, Bool, true, false, List, [], ◌∷◌, ◌++◌, Option, Some, None}
use Rattle.algebra.specs.HeldPaths.{Held, with_path}
use Rattle.core_program.specs.Core.{Program, Expr, Exprs, IntE, TruthE, NullE, ThisE, VarE, NotE, NegE, BinaryE, AndE, OrE, GetE, CallE, NewE, no_exprs, and_expr}
use Rattle.core_program.specs.Core.{Stmt, Stmts, EmptyS, BlockS, LocalS, SetVarS, SetFieldS, DoS, IfS, WhileS, SyncS, ReturnS, PrintS, StartS, no_stmts, and_stmt}
use Rattle.core_program.specs.Sizes.{nodes_of, stmt_nodes}
use Rattle.rules.specs.Effect.{after_stmt}
use Rattle.effects.specs.Parts.{Part, ExprP, StmtP}

-- a part that a walk comes to: its number, as the nodes of a derivation are numbered; the part; the set of held paths there; and
-- the number of the innermost loop that repeats it, if there is one
pub record Visit : Type 0 where
  pub node : ℕ
  pub part : Part
  pub held : Held
  pub loop : Option ℕ

-- a part alone
abbrev pub visit : ℕ → Part → Held → Option ℕ → List Visit
visit n part H loop = record { node = n; part = part; held = H; loop = loop } ∷ []

-- a synchronized part, by whether its lock is held already: what the walk with the set as it is gives, or that with the lock
abbrev pub by_lock : Bool → List Visit → List Visit → List Visit
by_lock true held taken = held
by_lock false held taken = taken

-- The parts that a walk comes to in expressions and in arguments.
abbrev mutual
  -- the parts of an expression with this number, each behind its own parts: the order in which they are done
  pub expr_visits : Expr → ℕ → Held → Option ℕ → List Visit
  expr_visits (IntE v) n H loop = visit n (ExprP (IntE v)) H loop
  expr_visits (TruthE b) n H loop = visit n (ExprP (TruthE b)) H loop
  expr_visits NullE n H loop = visit n (ExprP NullE) H loop
  expr_visits ThisE n H loop = visit n (ExprP ThisE) H loop
  expr_visits (VarE x is_final ty) n H loop = visit n (ExprP (VarE x is_final ty)) H loop
  expr_visits (NotE e) n H loop = expr_visits e (n + 1) H loop ++ visit n (ExprP (NotE e)) H loop
  expr_visits (NegE e) n H loop = expr_visits e (n + 1) H loop ++ visit n (ExprP (NegE e)) H loop
  expr_visits (BinaryE op a b) n H loop = expr_visits a (n + 1) H loop ++ (expr_visits b (n + 1 + nodes_of a) H loop ++ visit n (ExprP (BinaryE op a b)) H loop)
  expr_visits (AndE a b) n H loop = expr_visits a (n + 1) H loop ++ (expr_visits b (n + 1 + nodes_of a) H loop ++ visit n (ExprP (AndE a b)) H loop)
  expr_visits (OrE a b) n H loop = expr_visits a (n + 1) H loop ++ (expr_visits b (n + 1 + nodes_of a) H loop ++ visit n (ExprP (OrE a b)) H loop)
  expr_visits (GetE e f) n H loop = expr_visits e (n + 1) H loop ++ visit n (ExprP (GetE e f)) H loop
  expr_visits (CallE e m args) n H loop = expr_visits e (n + 1) H loop ++ (exprs_visits args (n + 1 + nodes_of e) H loop ++ visit n (ExprP (CallE e m args)) H loop)
  expr_visits (NewE c args) n H loop = exprs_visits args (n + 1) H loop ++ visit n (ExprP (NewE c args)) H loop

  -- those of arguments, one after the other
  pub exprs_visits : Exprs → ℕ → Held → Option ℕ → List Visit
  exprs_visits no_exprs n H loop = []
  exprs_visits (and_expr e es) n H loop = expr_visits e n H loop ++ exprs_visits es (n + nodes_of e) H loop

-- those of a returned value
abbrev pub value_visits : Option Expr → ℕ → Held → Option ℕ → List Visit
value_visits None n H loop = []
value_visits (Some e) n H loop = expr_visits e n H loop

module _ (P : Program) where
  abbrev mutual
    -- the parts of a statement; of an `if` both branches, of a block each statement with the set that those before it leave
    pub stmt_visits : Stmt → ℕ → Held → Option ℕ → List Visit
    stmt_visits EmptyS n H loop = visit n (StmtP EmptyS) H loop
    stmt_visits (BlockS ss) n H loop = block_visits ss (n + 1) H loop ++ visit n (StmtP (BlockS ss)) H loop
    stmt_visits (LocalS x is_final ty e) n H loop = expr_visits e (n + 1) H loop ++ visit n (StmtP (LocalS x is_final ty e)) H loop
    stmt_visits (SetVarS x e) n H loop = expr_visits e (n + 1) H loop ++ visit n (StmtP (SetVarS x e)) H loop
    stmt_visits (SetFieldS e f g) n H loop = expr_visits e (n + 1) H loop ++ (expr_visits g (n + 1 + nodes_of e) H loop ++ visit n (StmtP (SetFieldS e f g)) H loop)
    stmt_visits (DoS e drops) n H loop = expr_visits e (n + 1) H loop ++ visit n (StmtP (DoS e drops)) H loop
    stmt_visits (IfS c s t) n H loop = expr_visits c (n + 1) H loop ++ (stmt_visits s (n + 1 + nodes_of c) H loop
        ++ (stmt_visits t (n + 1 + nodes_of c + stmt_nodes s) H loop ++ visit n (StmtP (IfS c s t)) H loop))
    stmt_visits (WhileS c s) n H loop = expr_visits c (n + 1) H (Some n) ++ (stmt_visits s (n + 1 + nodes_of c) H (Some n) ++ visit n (StmtP (WhileS c s)) H loop)
    stmt_visits (SyncS p s) n H loop = by_lock (H p) (stmt_visits s (n + 1) H loop) (stmt_visits s (n + 1) (with_path p H) loop) ++ visit n (StmtP (SyncS p s)) H loop
    stmt_visits (ReturnS e) n H loop = value_visits e (n + 1) H loop ++ visit n (StmtP (ReturnS e)) H loop
    stmt_visits (PrintS e) n H loop = expr_visits e (n + 1) H loop ++ visit n (StmtP (PrintS e)) H loop
    stmt_visits (StartS e) n H loop = expr_visits e (n + 1) H loop ++ visit n (StmtP (StartS e)) H loop

    -- those of the statements of a block, numbered on from one statement to the next
    pub block_visits : Stmts → ℕ → Held → Option ℕ → List Visit
    block_visits no_stmts n H loop = []
    block_visits (and_stmt s ss) n H loop = stmt_visits s n H loop ++ block_visits ss (n + stmt_nodes s) (after_stmt P s H) loop

  -- the parts of a part that no loop repeats
  abbrev pub part_visits : Part → ℕ → Held → List Visit
  part_visits (ExprP e) n H = expr_visits e n H None
  part_visits (StmtP s) n H = stmt_visits s n H None
