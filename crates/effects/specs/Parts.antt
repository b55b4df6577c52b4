-- The parts of a body, each with the parts that it is made of.
use Rattle.std.specs.Prelude.{List, [], ◌∷◌, Option, Some, None}
use Rattle.core_program.specs.Core.{Expr, Exprs, IntE, TruthE, NullE, ThisE, VarE, NotE, NegE, BinaryE, AndE, OrE, GetE, CallE, NewE, no_exprs, and_expr}
use Rattle.core_program.specs.Core.{Stmt, Stmts, EmptyS, BlockS, LocalS, SetVarS, SetFieldS, DoS, IfS, WhileS, SyncS, ReturnS, PrintS, StartS, no_stmts, and_stmt}

-- a part of a body: an expression or a statement
pub data Part : Type 0 where
  ExprP : Expr → Part
  StmtP : Stmt → Part

-- arguments as parts
abbrev pub args_parts : Exprs → List Part
args_parts no_exprs = []
args_parts (and_expr e es) = ExprP e ∷ args_parts es

-- the statements of a block as parts
abbrev pub block_parts : Stmts → List Part
block_parts no_stmts = []
block_parts (and_stmt s ss) = StmtP s ∷ block_parts ss

-- the value of a `return`, if any
abbrev pub value_parts : Option Expr → List Part
value_parts None = []
value_parts (Some e) = ExprP e ∷ []

-- the parts that a part is made of, in order
abbrev pub parts_of : Part → List Part
parts_of (ExprP (IntE n)) = []
parts_of (ExprP (TruthE b)) = []
parts_of (ExprP NullE) = []
parts_of (ExprP ThisE) = []
parts_of (ExprP (VarE x is_final ty)) = []
parts_of (ExprP (NotE e)) = ExprP e ∷ []
parts_of (ExprP (NegE e)) = ExprP e ∷ []
parts_of (ExprP (BinaryE op a b)) = ExprP a ∷ ExprP b ∷ []
parts_of (ExprP (AndE a b)) = ExprP a ∷ ExprP b ∷ []
parts_of (ExprP (OrE a b)) = ExprP a ∷ ExprP b ∷ []
parts_of (ExprP (GetE e f)) = ExprP e ∷ []
parts_of (ExprP (CallE e m args)) = ExprP e ∷ args_parts args
parts_of (ExprP (NewE c args)) = args_parts args
parts_of (StmtP EmptyS) = []
parts_of (StmtP (BlockS ss)) = block_parts ss
parts_of (StmtP (LocalS x is_final ty e)) = ExprP e ∷ []
parts_of (StmtP (SetVarS x e)) = ExprP e ∷ []
parts_of (StmtP (SetFieldS e f g)) = ExprP e ∷ ExprP g ∷ []
parts_of (StmtP (DoS e drops)) = ExprP e ∷ []
parts_of (StmtP (IfS c s t)) = ExprP c ∷ StmtP s ∷ StmtP t ∷ []
parts_of (StmtP (WhileS c s)) = ExprP c ∷ StmtP s ∷ []
parts_of (StmtP (SyncS p s)) = StmtP s ∷ []
parts_of (StmtP (ReturnS e)) = value_parts e
parts_of (StmtP (PrintS e)) = ExprP e ∷ []
parts_of (StmtP (StartS e)) = ExprP e ∷ []
