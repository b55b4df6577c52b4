-- Names, expressions and statements as they are written.
use Rattle.std.specs.Prelude.{ℕ, Bool, true, false, List, [], ◌∷◌, Option, Some, None, codes}
use Rattle.syntax.specs.declared.tree.Name.{Name}
use Rattle.syntax.specs.declared.tree.Op.{Op}
use Rattle.syntax.specs.declared.tree.Op.TheVariants as O
use Rattle.syntax.specs.declared.tree.Param.{Param}
use Rattle.syntax.specs.declared.tree.TypeName.{TypeName}
use Rattle.syntax.specs.declared.tree.TypeName.TheVariants as Y
use Rattle.syntax.specs.Trees.{LockTree, ExprTree, ExprTrees, NumberE, LeastE, TruthE, NullE, ThisE, VarE, ParenE, NotE, NegE, BinaryE, GetE, CallE, NewE, no_exprs, more_exprs}
use Rattle.syntax.specs.Trees.{StmtTree, StmtTrees, EmptyS, BlockS, LocalS, SetVarS, SetFieldS, DoS, IfS, IfElseS, WhileS, SyncS, ReturnS, PrintS, StartS, no_stmts, more_stmts}
use Rattle.syntax.specs.Trees.{MethodTree, FieldTree, MemberTree, FieldM, MethodM, ClassTree}

-- a name at an offset
abbrev pub name : List ℕ → ℕ → Name
name text at = record { text = text; at = at }

-- the type of a class with this name
abbrev pub class_type_name : List ℕ → ℕ → TypeName
class_type_name text at = Y.Class (name text at)

-- a variable of this name
abbrev pub variable_at : List ℕ → ℕ → ExprTree
variable_at text at = VarE (name text at)

-- the variable `x` at 9, and the number 7 at 8
abbrev pub x_name : Name
x_name = name (codes "x") 9

-- the variable `x` as an expression
abbrev pub x : ExprTree
x = VarE x_name

-- the number 7, at 8
abbrev pub seven_tree : ExprTree
seven_tree = NumberE 7 8

-- the locks `this`, and a variable or `this` with fields behind it
abbrev pub this_lock : LockTree
this_lock = record { root = None; fields = []; at = 5 }

-- a lock with this root, or `this` without one, and these fields behind it
abbrev pub lock_tree : Option Name → List Name → ℕ → LockTree
lock_tree root fields at = record { root = root; fields = fields; at = at }

-- the operators, from the loosest to the tightest
abbrev pub all_ops : List Op
all_ops = O.Or ∷ O.And ∷ O.Eq ∷ O.Ne ∷ O.Lt ∷ O.Le ∷ O.Gt ∷ O.Ge ∷ O.Add ∷ O.Sub ∷ O.Mul ∷ O.Div ∷ O.Rem ∷ []

-- an expression of each kind, with the offset 1 where it has one of its own
abbrev pub all_exprs : List ExprTree
all_exprs = NumberE 7 1 ∷ LeastE 1 ∷ TruthE true 1 ∷ NullE 1 ∷ ThisE 1 ∷ x ∷ ParenE x 1 ∷ NotE x 1 ∷ NegE x 1 ∷ BinaryE O.Add seven_tree x 1 ∷ GetE x (name (codes "f") 11)
    ∷ CallE x (name (codes "m") 11) no_exprs ∷ NewE (name (codes "C") 5) no_exprs 1 ∷ []

-- a statement of each kind, at the offset 1
abbrev pub all_stmts : List StmtTree
all_stmts = EmptyS 1 ∷ BlockS no_stmts 1 ∷ LocalS true Y.Int (name (codes "y") 5) x 1 ∷ SetVarS (name (codes "y") 5) x 1 ∷ SetFieldS x (name (codes "f") 11) seven_tree 1
    ∷ DoS (NewE (name (codes "C") 5) no_exprs 1) 1 ∷ IfS x (EmptyS 12) 1 ∷ IfElseS x (EmptyS 12) (EmptyS 19) 1 ∷ WhileS x (EmptyS 12) 1 ∷ SyncS this_lock no_stmts 1
    ∷ ReturnS None 1 ∷ PrintS x 1 ∷ StartS x 1 ∷ []

-- a parameter
abbrev pub param : Bool → TypeName → Name → Param
param is_final ty n = record { is_final = is_final; ty = ty; name = n }

-- members: a field that nothing guards, a method without `requires`, and one that is void and has no parameters
abbrev pub field_tree : Bool → TypeName → Name → FieldTree
field_tree is_final ty n = record { is_final = is_final; ty = ty; name = n; guard = None; writes_only = false }

-- a field that nothing guards, as a member
abbrev pub field : Bool → TypeName → Name → MemberTree
field is_final ty n = FieldM (field_tree is_final ty n)

-- a method without `atomic` and `requires`
abbrev pub method_tree : Name → List Param → Option TypeName → StmtTrees → MethodTree
method_tree n params returns body = record { atomic = false; returns = returns; name = n; params = params; locks = []; body = body; end = 99 }

-- such a method as a member
abbrev pub method : Name → List Param → Option TypeName → StmtTrees → MemberTree
method n params returns body = MethodM (method_tree n params returns body)

-- `void m() { }` with this name
abbrev pub bare_method : Name → MemberTree
bare_method n = method n [] None no_stmts

-- classes: one that extends none, and one that extends another
abbrev pub class_tree : Name → List MemberTree → ClassTree
class_tree n members = record { name = n; above = None; runnable = false; members = members }

-- a class that extends another, and doesn't say `implements Runnable`
abbrev pub class_below : Name → Name → List MemberTree → ClassTree
class_below n above members = record { name = n; above = Some above; runnable = false; members = members }

-- one argument, one statement
abbrev pub one_expr : ExprTree → ExprTrees
one_expr e = more_exprs e no_exprs

-- a block of one statement
abbrev pub one_stmt : StmtTree → StmtTrees
one_stmt s = more_stmts s no_stmts
