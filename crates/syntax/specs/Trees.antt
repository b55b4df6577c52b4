-- The trees of programs as plain data, without pointers.
use Rattle.std.specs.Prelude.{ℕ, Bool, List, Option}
use Rattle.syntax.specs.declared.tree.Name.{Name}
use Rattle.syntax.specs.declared.tree.Op.{Op}
use Rattle.syntax.specs.declared.tree.Param.{Param}
use Rattle.syntax.specs.declared.tree.TypeName.{TypeName}

-- a lock expression; no root is `this`
pub record LockTree : Type 0 where
  pub root : Option Name
  pub fields : List Name
  pub at : ℕ

-- Expressions and lists of arguments, which hold each other.
mutual
  -- an expression
  pub data ExprTree : Type 0 where
    NumberE : ℕ → ℕ → ExprTree
    LeastE : ℕ → ExprTree
    TruthE : Bool → ℕ → ExprTree
    NullE : ℕ → ExprTree
    ThisE : ℕ → ExprTree
    VarE : Name → ExprTree
    ParenE : ExprTree → ℕ → ExprTree
    NotE : ExprTree → ℕ → ExprTree
    NegE : ExprTree → ℕ → ExprTree
    BinaryE : Op → ExprTree → ExprTree → ℕ → ExprTree
    GetE : ExprTree → Name → ExprTree
    CallE : ExprTree → Name → ExprTrees → ExprTree
    NewE : Name → ExprTrees → ℕ → ExprTree

  -- a list of arguments
  pub data ExprTrees : Type 0 where
    no_exprs : ExprTrees
    more_exprs : ExprTree → ExprTrees → ExprTrees

-- Statements and lists of them, which hold each other.
mutual
  -- a statement
  pub data StmtTree : Type 0 where
    EmptyS : ℕ → StmtTree
    BlockS : StmtTrees → ℕ → StmtTree
    LocalS : Bool → TypeName → Name → ExprTree → ℕ → StmtTree
    SetVarS : Name → ExprTree → ℕ → StmtTree
    SetFieldS : ExprTree → Name → ExprTree → ℕ → StmtTree
    DoS : ExprTree → ℕ → StmtTree
    IfS : ExprTree → StmtTree → ℕ → StmtTree
    IfElseS : ExprTree → StmtTree → StmtTree → ℕ → StmtTree
    WhileS : ExprTree → StmtTree → ℕ → StmtTree
    SyncS : LockTree → StmtTrees → ℕ → StmtTree
    ReturnS : Option ExprTree → ℕ → StmtTree
    PrintS : ExprTree → ℕ → StmtTree
    StartS : ExprTree → ℕ → StmtTree

  -- the statements of a block
  pub data StmtTrees : Type 0 where
    no_stmts : StmtTrees
    more_stmts : StmtTree → StmtTrees → StmtTrees

-- a method; no result is `void`
pub record MethodTree : Type 0 where
  pub atomic : Bool
  pub returns : Option TypeName
  pub name : Name
  pub params : List Param
  pub locks : List LockTree
  pub body : StmtTrees
  pub end : ℕ

-- a field; its guard holds for writes alone where `writes_only` is true
pub record FieldTree : Type 0 where
  pub is_final : Bool
  pub ty : TypeName
  pub name : Name
  pub guard : Option LockTree
  pub writes_only : Bool

-- a member of a class
pub data MemberTree : Type 0 where
  FieldM : FieldTree → MemberTree
  CtorM : Name → List Param → List (Name × Name) → MemberTree
  MethodM : MethodTree → MemberTree

-- a class; `above` is the name behind its `extends`
pub record ClassTree : Type 0 where
  pub name : Name
  pub above : Option Name
  pub runnable : Bool
  pub members : List MemberTree

-- a program is its classes in order
abbrev pub ProgramTree : Type 0
ProgramTree = List ClassTree
