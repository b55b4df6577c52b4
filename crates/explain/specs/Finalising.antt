-- What becomes of a method where a variable of it is made final.
use Rattle.std.specs.Prelude.{ℕ, Bool, false, not, ◌==◌, ◌||◌, ◌&&◌, List, Option, Some, None}
use Rattle.paths.specs.Paths.{PathData}
use Rattle.algebra.specs.declared.basic.Basic.{Basic}
use Rattle.algebra.specs.Basics.{below_of}
use Rattle.algebra.specs.HeldPaths.{has_path}
use Rattle.core_program.specs.Core.{Program, Method}
use Rattle.core_program.specs.Core.{Expr, Exprs, IntE, TruthE, NullE, ThisE, VarE, NotE, NegE, BinaryE, AndE, OrE, GetE, CallE, NewE, no_exprs, and_expr}
use Rattle.core_program.specs.Core.{Stmt, Stmts, EmptyS, BlockS, LocalS, SetVarS, SetFieldS, DoS, IfS, WhileS, SyncS, ReturnS, PrintS, StartS, no_stmts, and_stmt}
use Rattle.rules.specs.Effect.{Assignment, effect}

-- Whether statements assign to a variable that is declared.
abbrev mutual
  -- whether a statement assigns to this variable; its declaration doesn't
  pub assigns : (x : ℕ) → Stmt → Bool
  assigns x (SetVarS y e) = y == x
  assigns x (BlockS ss) = some_assigns x ss
  assigns x (IfS c s t) = assigns x s || assigns x t
  assigns x (WhileS c s) = assigns x s
  assigns x (SyncS p s) = assigns x s
  assigns x _ = false

  -- whether one of the statements of a block does
  pub some_assigns : (x : ℕ) → Stmts → Bool
  some_assigns x no_stmts = false
  some_assigns x (and_stmt s ss) = assigns x s || some_assigns x ss

-- Expressions with a variable final wherever it is read.
abbrev mutual
  -- an expression, where this variable is final
  pub final_expr : (x : ℕ) → Expr → Expr
  final_expr x (IntE n) = IntE n
  final_expr x (TruthE b) = TruthE b
  final_expr x NullE = NullE
  final_expr x ThisE = ThisE
  final_expr x (VarE y is_final ty) = VarE y (is_final || (y == x)) ty
  final_expr x (NotE e) = NotE (final_expr x e)
  final_expr x (NegE e) = NegE (final_expr x e)
  final_expr x (BinaryE op a b) = BinaryE op (final_expr x a) (final_expr x b)
  final_expr x (AndE a b) = AndE (final_expr x a) (final_expr x b)
  final_expr x (OrE a b) = OrE (final_expr x a) (final_expr x b)
  final_expr x (GetE e f) = GetE (final_expr x e) f
  final_expr x (CallE e m args) = CallE (final_expr x e) m (final_exprs x args)
  final_expr x (NewE c args) = NewE c (final_exprs x args)

  -- arguments, where it is
  pub final_exprs : (x : ℕ) → Exprs → Exprs
  final_exprs x no_exprs = no_exprs
  final_exprs x (and_expr e es) = and_expr (final_expr x e) (final_exprs x es)

-- what is given back, if there is anything
abbrev pub final_value : (x : ℕ) → Option Expr → Option Expr
final_value x None = None
final_value x (Some e) = Some (final_expr x e)

-- Statements with a variable final wherever it is declared and read.
abbrev mutual
  -- a statement, where this variable is final
  pub final_stmt : (x : ℕ) → Stmt → Stmt
  final_stmt x EmptyS = EmptyS
  final_stmt x (BlockS ss) = BlockS (final_stmts x ss)
  final_stmt x (LocalS y is_final ty e) = LocalS y (is_final || (y == x)) ty (final_expr x e)
  final_stmt x (SetVarS y e) = SetVarS y (final_expr x e)
  final_stmt x (SetFieldS e f g) = SetFieldS (final_expr x e) f (final_expr x g)
  final_stmt x (DoS e drops) = DoS (final_expr x e) drops
  final_stmt x (IfS c s t) = IfS (final_expr x c) (final_stmt x s) (final_stmt x t)
  final_stmt x (WhileS c s) = WhileS (final_expr x c) (final_stmt x s)
  final_stmt x (SyncS p s) = SyncS p (final_stmt x s)
  final_stmt x (ReturnS value) = ReturnS (final_value x value)
  final_stmt x (PrintS e) = PrintS (final_expr x e)
  final_stmt x (StartS e) = StartS (final_expr x e)

  -- the statements of a block, where it is
  pub final_stmts : (x : ℕ) → Stmts → Stmts
  final_stmts x no_stmts = no_stmts
  final_stmts x (and_stmt s ss) = and_stmt (final_stmt x s) (final_stmts x ss)

module _ (P : Program) (rel : ℕ → List PathData) (A : Assignment) where
  -- the effect of a method's body with a variable final, at its required paths
  abbrev pub finalised : Method → (x : ℕ) → Basic
  finalised method x = effect P rel A (final_stmt x method.body) (has_path method.requires_)

  -- whether nothing assigns to the variable again, and with it final the body is at most this
  abbrev pub final_variable_fits : Method → (limit : Basic) → (x : ℕ) → Bool
  final_variable_fits method limit x = not (assigns x method.body) && below_of (finalised method x) limit
