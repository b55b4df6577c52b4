-- The basic of each part of a body at the set with which a walk comes to it, in the order of the parts' numbers.
use Rattle.std.specs.Prelude.{ℕ, Bool, true, false, List, [], ◌∷◌, ◌++◌, Option, Some, None}
use Rattle.paths.specs.Paths.{PathData}
use Rattle.algebra.specs.declared.basic.Basic.{Basic}
use Rattle.algebra.specs.HeldPaths.{Held, with_path}
use Rattle.core_program.specs.Core.{Program, Expr, Exprs, IntE, TruthE, NullE, ThisE, VarE, NotE, NegE, BinaryE, AndE, OrE, GetE, CallE, NewE, no_exprs, and_expr}
use Rattle.core_program.specs.Core.{Stmt, Stmts, EmptyS, BlockS, LocalS, SetVarS, SetFieldS, DoS, IfS, WhileS, SyncS, ReturnS, PrintS, StartS, no_stmts, and_stmt}
use Rattle.rules.specs.Effect.{Assignment, expr_effect, effect, after_stmt}

-- the parts of a synchronized part, by whether its lock is held already
abbrev pub basics_by_lock : Bool → List Basic → List Basic → List Basic
basics_by_lock true held taken = held
basics_by_lock false held taken = taken

module _ (P : Program) (rel : ℕ → List PathData) (A : Assignment) where
  abbrev mutual
    -- the basics of the parts of an expression, its own first
    pub expr_basics : Expr → Held → List Basic
    expr_basics (IntE v) H = expr_effect P rel A (IntE v) H ∷ []
    expr_basics (TruthE b) H = expr_effect P rel A (TruthE b) H ∷ []
    expr_basics NullE H = expr_effect P rel A NullE H ∷ []
    expr_basics ThisE H = expr_effect P rel A ThisE H ∷ []
    expr_basics (VarE x is_final ty) H = expr_effect P rel A (VarE x is_final ty) H ∷ []
    expr_basics (NotE e) H = expr_effect P rel A (NotE e) H ∷ expr_basics e H
    expr_basics (NegE e) H = expr_effect P rel A (NegE e) H ∷ expr_basics e H
    expr_basics (BinaryE op a b) H = expr_effect P rel A (BinaryE op a b) H ∷ (expr_basics a H ++ expr_basics b H)
    expr_basics (AndE a b) H = expr_effect P rel A (AndE a b) H ∷ (expr_basics a H ++ expr_basics b H)
    expr_basics (OrE a b) H = expr_effect P rel A (OrE a b) H ∷ (expr_basics a H ++ expr_basics b H)
    expr_basics (GetE e f) H = expr_effect P rel A (GetE e f) H ∷ expr_basics e H
    expr_basics (CallE e m args) H = expr_effect P rel A (CallE e m args) H ∷ (expr_basics e H ++ exprs_basics args H)
    expr_basics (NewE c args) H = expr_effect P rel A (NewE c args) H ∷ exprs_basics args H

    -- those of arguments, one after the other
    pub exprs_basics : Exprs → Held → List Basic
    exprs_basics no_exprs H = []
    exprs_basics (and_expr e es) H = expr_basics e H ++ exprs_basics es H

  -- those of a returned value
  abbrev pub value_basics : Option Expr → Held → List Basic
  value_basics None H = []
  value_basics (Some e) H = expr_basics e H

  abbrev mutual
    -- the basics of the parts of a statement, its own first; of a block each statement with the set that those before it leave
    pub stmt_basics : Stmt → Held → List Basic
    stmt_basics EmptyS H = effect P rel A EmptyS H ∷ []
    stmt_basics (BlockS ss) H = effect P rel A (BlockS ss) H ∷ block_basics ss H
    stmt_basics (LocalS x is_final ty e) H = effect P rel A (LocalS x is_final ty e) H ∷ expr_basics e H
    stmt_basics (SetVarS x e) H = effect P rel A (SetVarS x e) H ∷ expr_basics e H
    stmt_basics (SetFieldS e f g) H = effect P rel A (SetFieldS e f g) H ∷ (expr_basics e H ++ expr_basics g H)
    stmt_basics (DoS e drops) H = effect P rel A (DoS e drops) H ∷ expr_basics e H
    stmt_basics (IfS c s t) H = effect P rel A (IfS c s t) H ∷ (expr_basics c H ++ (stmt_basics s H ++ stmt_basics t H))
    stmt_basics (WhileS c s) H = effect P rel A (WhileS c s) H ∷ (expr_basics c H ++ stmt_basics s H)
    stmt_basics (SyncS p s) H = effect P rel A (SyncS p s) H ∷ basics_by_lock (H p) (stmt_basics s H) (stmt_basics s (with_path p H))
    stmt_basics (ReturnS value) H = effect P rel A (ReturnS value) H ∷ value_basics value H
    stmt_basics (PrintS e) H = effect P rel A (PrintS e) H ∷ expr_basics e H
    stmt_basics (StartS e) H = effect P rel A (StartS e) H ∷ expr_basics e H

    -- the basics of the statements of a block, each statement with the set that those before it leave
    pub block_basics : Stmts → Held → List Basic
    block_basics no_stmts H = []
    block_basics (and_stmt s ss) H = stmt_basics s H ++ block_basics ss (after_stmt P s H)
