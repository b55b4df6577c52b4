-- What each node of a method was made of. The list has the order of the nodes' numbers: each node before its own parts.
use Rattle.std.specs.Prelude.{ℕ, List, [], ◌∷◌, ◌++◌, map, Option, Some, None}
use Rattle.syntax.specs.Offsets.{begins_at}
use Rattle.syntax.specs.Trees.{ExprTree, ExprTrees, NumberE, LeastE, TruthE, NullE, ThisE, VarE, ParenE, NotE, NegE, BinaryE, GetE, CallE, NewE, no_exprs, more_exprs}
use Rattle.syntax.specs.Trees.{StmtTree, StmtTrees, EmptyS, BlockS, LocalS, SetVarS, SetFieldS, DoS, IfS, IfElseS, WhileS, SyncS, ReturnS, PrintS, StartS, no_stmts, more_stmts}
use Rattle.syntax.specs.Trees.{MethodTree, MemberTree, FieldM, CtorM, MethodM, ProgramTree}

-- what a node was made of: an expression; a statement; the block of a `synchronized`; the `else` that an `if` doesn't have; the body
-- of a method
pub data Source : Type 0 where
  FromExpr : ExprTree → Source
  FromStmt : StmtTree → Source
  InSync : StmtTree → Source
  NoElse : StmtTree → Source
  FromBody : MethodTree → Source

-- What the nodes of expressions and of arguments were made of.
abbrev mutual
  -- what the nodes of an expression were made of; parentheses make none
  pub expr_sources : ExprTree → List Source
  expr_sources (NumberE n at) = FromExpr (NumberE n at) ∷ []
  expr_sources (LeastE at) = FromExpr (LeastE at) ∷ []
  expr_sources (TruthE b at) = FromExpr (TruthE b at) ∷ []
  expr_sources (NullE at) = FromExpr (NullE at) ∷ []
  expr_sources (ThisE at) = FromExpr (ThisE at) ∷ []
  expr_sources (VarE n) = FromExpr (VarE n) ∷ []
  expr_sources (ParenE e at) = expr_sources e
  expr_sources (NotE e at) = FromExpr (NotE e at) ∷ expr_sources e
  expr_sources (NegE e at) = FromExpr (NegE e at) ∷ expr_sources e
  expr_sources (BinaryE op a b at) = FromExpr (BinaryE op a b at) ∷ (expr_sources a ++ expr_sources b)
  expr_sources (GetE e n) = FromExpr (GetE e n) ∷ expr_sources e
  expr_sources (CallE e n args) = FromExpr (CallE e n args) ∷ (expr_sources e ++ exprs_sources args)
  expr_sources (NewE n args at) = FromExpr (NewE n args at) ∷ exprs_sources args

  -- what the nodes of some arguments were made of, one argument after the other
  pub exprs_sources : ExprTrees → List Source
  exprs_sources no_exprs = []
  exprs_sources (more_exprs e es) = expr_sources e ++ exprs_sources es

-- those of a returned value
abbrev pub value_sources : Option ExprTree → List Source
value_sources None = []
value_sources (Some e) = expr_sources e

-- What the nodes of statements and of blocks were made of.
abbrev mutual
  -- what the nodes of a statement were made of
  pub stmt_sources : StmtTree → List Source
  stmt_sources (EmptyS at) = FromStmt (EmptyS at) ∷ []
  stmt_sources (BlockS ss at) = FromStmt (BlockS ss at) ∷ block_sources ss
  stmt_sources (LocalS fin ty n e at) = FromStmt (LocalS fin ty n e at) ∷ expr_sources e
  stmt_sources (SetVarS n e at) = FromStmt (SetVarS n e at) ∷ expr_sources e
  stmt_sources (SetFieldS e n value at) = FromStmt (SetFieldS e n value at) ∷ (expr_sources e ++ expr_sources value)
  stmt_sources (DoS e at) = FromStmt (DoS e at) ∷ expr_sources e
  stmt_sources (IfS c s at) = FromStmt (IfS c s at) ∷ (expr_sources c ++ (stmt_sources s ++ (NoElse (IfS c s at) ∷ [])))
  stmt_sources (IfElseS c s u at) = FromStmt (IfElseS c s u at) ∷ (expr_sources c ++ (stmt_sources s ++ stmt_sources u))
  stmt_sources (WhileS c s at) = FromStmt (WhileS c s at) ∷ (expr_sources c ++ stmt_sources s)
  stmt_sources (SyncS l ss at) = FromStmt (SyncS l ss at) ∷ (InSync (SyncS l ss at) ∷ block_sources ss)
  stmt_sources (ReturnS value at) = FromStmt (ReturnS value at) ∷ value_sources value
  stmt_sources (PrintS e at) = FromStmt (PrintS e at) ∷ expr_sources e
  stmt_sources (StartS e at) = FromStmt (StartS e at) ∷ expr_sources e

  -- what the nodes of the statements of a block were made of, one statement after the other
  pub block_sources : StmtTrees → List Source
  block_sources no_stmts = []
  block_sources (more_stmts s ss) = stmt_sources s ++ block_sources ss

-- what the nodes of a method's body were made of
abbrev pub method_sources : MethodTree → List Source
method_sources m = FromBody m ∷ block_sources m.body

-- the offset at which a node made of an expression is told: of an access and a call that of the name, since nested ones begin at the
-- same place; of all others their own
abbrev pub expr_place : ExprTree → ℕ
expr_place (NumberE n at) = at
expr_place (LeastE at) = at
expr_place (TruthE b at) = at
expr_place (NullE at) = at
expr_place (ThisE at) = at
expr_place (VarE n) = n.at
expr_place (ParenE e at) = at
expr_place (NotE e at) = at
expr_place (NegE e at) = at
expr_place (BinaryE op a b at) = at
expr_place (GetE e n) = n.at
expr_place (CallE e n args) = n.at
expr_place (NewE n args at) = at

-- the offset at which a node is told
abbrev pub source_offset : Source → ℕ
source_offset (FromExpr e) = expr_place e
source_offset (FromStmt s) = begins_at s
source_offset (InSync s) = begins_at s
source_offset (NoElse s) = begins_at s
source_offset (FromBody m) = m.name.at

-- the offsets of the nodes of a method, by their numbers
abbrev pub method_places : MethodTree → List ℕ
method_places m = map source_offset (method_sources m)

-- those of a member that is a method; another has none
abbrev pub member_places : MemberTree → List ℕ
member_places (FieldM f) = []
member_places (CtorM n params sets) = []
member_places (MethodM m) = method_places m

-- the methods among members, in order
abbrev pub methods_among : List MemberTree → List MethodTree
methods_among [] = []
methods_among (FieldM f ∷ ms) = methods_among ms
methods_among (CtorM n params sets ∷ ms) = methods_among ms
methods_among (MethodM m ∷ ms) = m ∷ methods_among ms

-- the methods of a program, by their numbers
abbrev pub methods_in : ProgramTree → List MethodTree
methods_in [] = []
methods_in (c ∷ cs) = methods_among c.members ++ methods_in cs
