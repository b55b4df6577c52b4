-- Every name that stands in a tree, in the order of the tokens.
use Rattle.std.specs.Prelude.{List, [], ◌∷◌, ◌++◌, Option, Some, None}
use Rattle.std.specs.List.{flat_map}
use Rattle.syntax.specs.declared.tree.Name.{Name}
use Rattle.syntax.specs.declared.tree.Param.{Param}
use Rattle.syntax.specs.declared.tree.TypeName.{TypeName}
use Rattle.syntax.specs.declared.tree.TypeName.TheVariants as Y
use Rattle.syntax.specs.Trees.{LockTree, ExprTree, ExprTrees, NumberE, LeastE, TruthE, NullE, ThisE, VarE, ParenE, NotE, NegE, BinaryE, GetE, CallE, NewE, no_exprs, more_exprs, StmtTree, StmtTrees, EmptyS, BlockS, LocalS, SetVarS, SetFieldS, DoS, IfS, IfElseS, WhileS, SyncS, ReturnS, PrintS, StartS, no_stmts, more_stmts, MethodTree, FieldTree, MemberTree, FieldM, CtorM, MethodM, ClassTree, ProgramTree}

-- the class name of a type, or none
abbrev pub names_of_type : TypeName → List Name
names_of_type Y.Int = []
names_of_type Y.Boolean = []
names_of_type (Y.Class n) = n ∷ []

-- the class name of a method's result, or none
abbrev pub names_of_result : Option TypeName → List Name
names_of_result None = []
names_of_result (Some ty) = names_of_type ty

-- the local that a lock begins with, or none where it begins with `this`
abbrev pub names_of_root : Option Name → List Name
names_of_root None = []
names_of_root (Some n) = n ∷ []

-- the names in a lock: its root, then its fields
abbrev pub names_of_lock : LockTree → List Name
names_of_lock l = names_of_root l.root ++ l.fields

-- The names in an expression and in a list of arguments.
abbrev mutual
  -- the variables, fields, methods and classes that an expression names
  pub names_of_expr : ExprTree → List Name
  names_of_expr (NumberE n at) = []
  names_of_expr (LeastE at) = []
  names_of_expr (TruthE b at) = []
  names_of_expr (NullE at) = []
  names_of_expr (ThisE at) = []
  names_of_expr (VarE n) = n ∷ []
  names_of_expr (ParenE e at) = names_of_expr e
  names_of_expr (NotE e at) = names_of_expr e
  names_of_expr (NegE e at) = names_of_expr e
  names_of_expr (BinaryE op e f at) = names_of_expr e ++ names_of_expr f
  names_of_expr (GetE e n) = names_of_expr e ++ (n ∷ [])
  names_of_expr (CallE e n args) = names_of_expr e ++ (n ∷ names_of_exprs args)
  names_of_expr (NewE n args at) = n ∷ names_of_exprs args

  -- the names in a list of arguments, one argument after the other
  pub names_of_exprs : ExprTrees → List Name
  names_of_exprs no_exprs = []
  names_of_exprs (more_exprs e es) = names_of_expr e ++ names_of_exprs es

-- The names in a statement and in the statements of a block.
abbrev mutual
  -- the names in a statement, of types, locals, fields and all that its expressions name
  pub names_of_stmt : StmtTree → List Name
  names_of_stmt (EmptyS at) = []
  names_of_stmt (BlockS ss at) = names_of_stmts ss
  names_of_stmt (LocalS fin ty n e at) = names_of_type ty ++ (n ∷ names_of_expr e)
  names_of_stmt (SetVarS n e at) = n ∷ names_of_expr e
  names_of_stmt (SetFieldS e n f at) = names_of_expr e ++ (n ∷ names_of_expr f)
  names_of_stmt (DoS e at) = names_of_expr e
  names_of_stmt (IfS e s at) = names_of_expr e ++ names_of_stmt s
  names_of_stmt (IfElseS e s t at) = names_of_expr e ++ (names_of_stmt s ++ names_of_stmt t)
  names_of_stmt (WhileS e s at) = names_of_expr e ++ names_of_stmt s
  names_of_stmt (SyncS l ss at) = names_of_lock l ++ names_of_stmts ss
  names_of_stmt (ReturnS None at) = []
  names_of_stmt (ReturnS (Some e) at) = names_of_expr e
  names_of_stmt (PrintS e at) = names_of_expr e
  names_of_stmt (StartS e at) = names_of_expr e

  -- the names in a list of statements, one statement after the other
  pub names_of_stmts : StmtTrees → List Name
  names_of_stmts no_stmts = []
  names_of_stmts (more_stmts s ss) = names_of_stmt s ++ names_of_stmts ss

-- the class name in a parameter's type, then its own name
abbrev pub names_of_param : Param → List Name
names_of_param p = names_of_type p.ty ++ (p.name ∷ [])

-- the field and the parameter in a line of a constructor
abbrev pub names_of_set : (Name × Name) → List Name
names_of_set p = p.0 ∷ p.1 ∷ []

-- the names in the lock that guards a field, or none
abbrev pub names_of_guard : Option LockTree → List Name
names_of_guard None = []
names_of_guard (Some l) = names_of_lock l

-- the class name in a field's type, its own name, and the names in its guard
abbrev pub names_of_field : FieldTree → List Name
names_of_field f = names_of_type f.ty ++ (f.name ∷ names_of_guard f.guard)

-- the names in a method's heading, its required locks and its body
abbrev pub names_of_method : MethodTree → List Name
names_of_method m =
    names_of_result m.returns ++ (m.name ∷ flat_map names_of_param m.params ++ (flat_map names_of_lock m.locks ++ names_of_stmts m.body))

-- the names in a field, a constructor or a method
abbrev pub names_of_member : MemberTree → List Name
names_of_member (FieldM f) = names_of_field f
names_of_member (CtorM n params sets) = n ∷ flat_map names_of_param params ++ flat_map names_of_set sets
names_of_member (MethodM m) = names_of_method m

-- the name of the class above, or none
abbrev pub names_of_extends : Option Name → List Name
names_of_extends None = []
names_of_extends (Some n) = n ∷ []

-- a class's own name, that of the class above, and those in its members
abbrev pub names_of_class : ClassTree → List Name
names_of_class c = c.name ∷ names_of_extends c.above ++ flat_map names_of_member c.members

-- all names of a program, class by class
abbrev pub names_of_program : ProgramTree → List Name
names_of_program t = flat_map names_of_class t
