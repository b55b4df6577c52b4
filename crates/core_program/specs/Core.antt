-- The core program as plain data: no boxes, no vectors, each id a number.
use Rattle.std.specs.Prelude.{ℕ, ℤ, Bool, List, Option}
use Rattle.paths.specs.Paths.{PathData}
use Rattle.core_program.specs.declared.types.CoreType.{CoreType}
use Rattle.core_program.specs.declared.types.CoreOp.{CoreOp}

-- Expressions and lists of arguments, which hold each other.
mutual
  -- an expression; a variable has its slot, whether that is final, and its type
  pub data Expr : Type 0 where
    IntE : ℤ → Expr
    TruthE : Bool → Expr
    NullE : Expr
    ThisE : Expr
    VarE : ℕ → Bool → CoreType → Expr
    NotE : Expr → Expr
    NegE : Expr → Expr
    BinaryE : CoreOp → Expr → Expr → Expr
    AndE : Expr → Expr → Expr
    OrE : Expr → Expr → Expr
    GetE : Expr → ℕ → Expr
    CallE : Expr → ℕ → Exprs → Expr
    NewE : ℕ → Exprs → Expr

  -- the arguments of a call or a `new`
  pub data Exprs : Type 0 where
    no_exprs : Exprs
    and_expr : Expr → Exprs → Exprs

-- Statements and lists of them, which hold each other.
mutual
  -- a statement; a local has its slot, whether it is final, its type and its value
  pub data Stmt : Type 0 where
    EmptyS : Stmt
    BlockS : Stmts → Stmt
    LocalS : ℕ → Bool → CoreType → Expr → Stmt
    SetVarS : ℕ → Expr → Stmt
    SetFieldS : Expr → ℕ → Expr → Stmt
    DoS : Expr → Bool → Stmt
    IfS : Expr → Stmt → Stmt → Stmt
    WhileS : Expr → Stmt → Stmt
    SyncS : PathData → Stmt → Stmt
    ReturnS : Option Expr → Stmt
    PrintS : Expr → Stmt
    StartS : Expr → Stmt

  -- the statements of a block
  pub data Stmts : Type 0 where
    no_stmts : Stmts
    and_stmt : Stmt → Stmts → Stmts

-- a class: its fields in order, those of the classes above it first; the final ones among them; the method that runs for `run`, where it counts as
-- `implements Runnable`; the class that it extends; and each method that it has, its own or from above, with the one that runs for it
pub record Class : Type 0 where
  pub fields : List ℕ
  pub finals : List ℕ
  pub run : Option ℕ
  pub above : Option ℕ
  pub targets : List (ℕ × ℕ)

-- a field: its class, its place there and in every class that has it, whether it is final, its type, its guard, and whether that guards writes only
pub record Field : Type 0 where
  pub class : ℕ
  pub index : ℕ
  pub is_final : Bool
  pub ty : CoreType
  pub guard : Option PathData
  pub writes_only : Bool

-- a method: each parameter with whether it is final, and its type
pub record Method : Type 0 where
  pub class : ℕ
  pub place_at : ℕ
  pub annotated : Bool
  pub requires_ : List PathData
  pub params : List (Bool × CoreType)
  pub result : Option CoreType
  pub slots : ℕ
  pub body : Stmt

-- a program: classes, fields and methods by their ids, the class `Main` and its method `main`
pub record Program : Type 0 where
  pub classes : List Class
  pub fields : List Field
  pub methods : List Method
  pub main_class : ℕ
  pub main : ℕ
