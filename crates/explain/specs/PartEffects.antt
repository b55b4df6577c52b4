-- The parts of a body, and what each does by itself.
use Rattle.std.specs.Prelude.{ℕ, Bool, true, false, List, [], ◌∷◌, ◌++◌, Option, Some, None}
use Rattle.paths.specs.Paths.{PathData}
use Rattle.algebra.specs.declared.basic.Basic.{Basic}
use Rattle.algebra.specs.declared.basic.Basic.TheVariants.{Const, Mover, Atomic}
use Rattle.algebra.specs.HeldPaths.{Held}
use Rattle.core_program.specs.Core.{Program, Expr, Exprs, IntE, TruthE, NullE, ThisE, VarE, NotE, NegE, BinaryE, AndE, OrE, GetE, CallE, NewE, no_exprs, and_expr}
use Rattle.core_program.specs.Core.{Stmt, Stmts, EmptyS, BlockS, LocalS, SetVarS, SetFieldS, DoS, IfS, WhileS, SyncS, ReturnS, PrintS, StartS, no_stmts, and_stmt}
use Rattle.core_program.specs.Locks.{path_of}
use Rattle.rules.specs.Mentions.{paths_of}
use Rattle.effects.specs.Parts.{Part, ExprP, StmtP}
use Rattle.rules.specs.Effect.{Assignment, variable_effect, access_of, call_of, expr_effect, effect}

-- a synchronized part by itself, by whether its lock is held already: nothing, or it takes the lock and gives it back
abbrev pub lock_effect : Bool → Basic
lock_effect true = Const
lock_effect false = Atomic

module _ (P : Program) (rel : ℕ → List PathData) (A : Assignment) where
  -- what a part does by itself, when its own parts are done: an access, a call, a lock, an output, a start
  abbrev pub own_of : Part → Held → Basic
  own_of (ExprP (IntE v)) H = Const
  own_of (ExprP (TruthE b)) H = Const
  own_of (ExprP NullE) H = Const
  own_of (ExprP ThisE) H = Const
  own_of (ExprP (VarE x is_final ty)) H = variable_effect is_final
  own_of (ExprP (NotE e)) H = Const
  own_of (ExprP (NegE e)) H = Const
  own_of (ExprP (BinaryE op a b)) H = Const
  own_of (ExprP (AndE a b)) H = Const
  own_of (ExprP (OrE a b)) H = Const
  own_of (ExprP (GetE e f)) H = access_of P false f (path_of P e) H
  own_of (ExprP (CallE e m args)) H = call_of P rel A m (path_of P e) (paths_of P args) H
  own_of (ExprP (NewE c args)) H = Mover
  own_of (StmtP EmptyS) H = Const
  own_of (StmtP (BlockS ss)) H = Const
  own_of (StmtP (LocalS x is_final ty e)) H = Mover
  own_of (StmtP (SetVarS x e)) H = Mover
  own_of (StmtP (SetFieldS e f g)) H = access_of P true f (path_of P e) H
  own_of (StmtP (DoS e drops)) H = Const
  own_of (StmtP (IfS c s t)) H = Const
  own_of (StmtP (WhileS c s)) H = Const
  own_of (StmtP (SyncS p s)) H = lock_effect (H p)
  own_of (StmtP (ReturnS e)) H = Const
  own_of (StmtP (PrintS e)) H = Atomic
  own_of (StmtP (StartS e)) H = Atomic

  -- the effect of a part, its own parts among it
  abbrev pub effect_of_part : Part → Held → Basic
  effect_of_part (ExprP e) H = expr_effect P rel A e H
  effect_of_part (StmtP s) H = effect P rel A s H

-- The parts of expressions and of arguments.
abbrev mutual
  -- the parts of an expression, each before its own parts: the order of their numbers
  pub expr_parts : Expr → List Part
  expr_parts (IntE v) = ExprP (IntE v) ∷ []
  expr_parts (TruthE b) = ExprP (TruthE b) ∷ []
  expr_parts NullE = ExprP NullE ∷ []
  expr_parts ThisE = ExprP ThisE ∷ []
  expr_parts (VarE x is_final ty) = ExprP (VarE x is_final ty) ∷ []
  expr_parts (NotE e) = ExprP (NotE e) ∷ expr_parts e
  expr_parts (NegE e) = ExprP (NegE e) ∷ expr_parts e
  expr_parts (BinaryE op a b) = ExprP (BinaryE op a b) ∷ (expr_parts a ++ expr_parts b)
  expr_parts (AndE a b) = ExprP (AndE a b) ∷ (expr_parts a ++ expr_parts b)
  expr_parts (OrE a b) = ExprP (OrE a b) ∷ (expr_parts a ++ expr_parts b)
  expr_parts (GetE e f) = ExprP (GetE e f) ∷ expr_parts e
  expr_parts (CallE e m args) = ExprP (CallE e m args) ∷ (expr_parts e ++ exprs_parts args)
  expr_parts (NewE c args) = ExprP (NewE c args) ∷ exprs_parts args

  -- the parts of some arguments, one argument after the other
  pub exprs_parts : Exprs → List Part
  exprs_parts no_exprs = []
  exprs_parts (and_expr e es) = expr_parts e ++ exprs_parts es

-- those of a returned value
abbrev pub parts_of_value : Option Expr → List Part
parts_of_value None = []
parts_of_value (Some e) = expr_parts e

-- The parts of statements and of blocks.
abbrev mutual
  -- the parts of a statement
  pub stmt_parts : Stmt → List Part
  stmt_parts EmptyS = StmtP EmptyS ∷ []
  stmt_parts (BlockS ss) = StmtP (BlockS ss) ∷ block_parts ss
  stmt_parts (LocalS x is_final ty e) = StmtP (LocalS x is_final ty e) ∷ expr_parts e
  stmt_parts (SetVarS x e) = StmtP (SetVarS x e) ∷ expr_parts e
  stmt_parts (SetFieldS e f g) = StmtP (SetFieldS e f g) ∷ (expr_parts e ++ expr_parts g)
  stmt_parts (DoS e drops) = StmtP (DoS e drops) ∷ expr_parts e
  stmt_parts (IfS c s t) = StmtP (IfS c s t) ∷ (expr_parts c ++ (stmt_parts s ++ stmt_parts t))
  stmt_parts (WhileS c s) = StmtP (WhileS c s) ∷ (expr_parts c ++ stmt_parts s)
  stmt_parts (SyncS p s) = StmtP (SyncS p s) ∷ stmt_parts s
  stmt_parts (ReturnS e) = StmtP (ReturnS e) ∷ parts_of_value e
  stmt_parts (PrintS e) = StmtP (PrintS e) ∷ expr_parts e
  stmt_parts (StartS e) = StmtP (StartS e) ∷ expr_parts e

  -- the parts of the statements of a block, one statement after the other
  pub block_parts : Stmts → List Part
  block_parts no_stmts = []
  block_parts (and_stmt s ss) = stmt_parts s ++ block_parts ss

-- all parts of a part, itself first
abbrev pub parts_in : Part → List Part
parts_in (ExprP e) = expr_parts e
parts_in (StmtP s) = stmt_parts s
