-- Expressions and statements in a method of the class Rare of the program `shop`, with five variables in scope.
use Rattle.std.specs.Prelude.{ℕ, pos, true, false, List, Option, None, codes}
use Rattle.core_program.specs.declared.types.CoreType.{CoreType}
use Rattle.core_program.specs.declared.types.CoreType.TheVariants as T
use Rattle.core_program.specs.Core as core
use Rattle.syntax.specs.declared.tree.TypeName.TheVariants as Y
use Rattle.syntax.specs.Trees.{ExprTree, ExprTrees, NumberE, ThisE, GetE, CallE, NewE, StmtTree, StmtTrees, BlockS, LocalS}
use Rattle.typing.specs.declared.fault.TypeFault.{TypeFault}
use Rattle.typing.specs.Rules.{TypedData}
use Rattle.typing.specs.Exprs.{elaborated, expr_faults}
use Rattle.typing.specs.Stmts.{stmt_core, stmt_faults, block_core, block_faults}
use Rattle.front_examples.specs.Written.{name, variable_at, one_stmt}
use Rattle.front_examples.specs.Shop.{shop_table, in_scope}

-- the type and core node of an expression, and its faults
abbrev pub type_at : ExprTree → Option TypedData
type_at = elaborated shop_table 1 in_scope

-- the faults of an expression there
abbrev pub faults_at : ExprTree → List TypeFault
faults_at = expr_faults shop_table 1 in_scope

-- the core node of a statement in a method with this result, whose first free slot is 6, and its faults; two locals were declared before
abbrev pub stmt_at : Option CoreType → StmtTree → Option core.Stmt
stmt_at result = stmt_core shop_table 1 result 6 in_scope 2

-- the faults of a statement there, in a method with this result
abbrev pub stmt_faults_at : Option CoreType → StmtTree → List TypeFault
stmt_faults_at result = stmt_faults shop_table 1 result 6 in_scope 2

-- the same of the statements of a block, in a void method
abbrev pub block_at : StmtTrees → Option core.Stmts
block_at = block_core shop_table 1 None 6 in_scope 2

-- the faults of the statements of a block, in a void method, in a place that can be reached
abbrev pub block_faults_at : StmtTrees → List TypeFault
block_faults_at = block_faults shop_table 1 None 6 in_scope 2 true

-- the variables, as they are written at an offset, and as core nodes
abbrev pub var_n : ℕ → ExprTree
var_n = variable_at (codes "n")

-- the variable `b`, written at this offset
abbrev pub var_b : ℕ → ExprTree
var_b = variable_at (codes "b")

-- the variable `r`, written at this offset
abbrev pub var_r : ℕ → ExprTree
var_r = variable_at (codes "r")

-- the variable `i`, written at this offset
abbrev pub var_i : ℕ → ExprTree
var_i = variable_at (codes "i")

-- the variable `n`: a final `int` of the slot 1
abbrev pub n_core : core.Expr
n_core = core.VarE 1 true T.Int

-- the variable `b`: a `boolean` of the slot 2
abbrev pub b_core : core.Expr
b_core = core.VarE 2 false T.Boolean

-- the variable `r`: a final Rare of the slot 3
abbrev pub r_core : core.Expr
r_core = core.VarE 3 true (T.Class 1)

-- the variable `i`: an Item of the slot 4
abbrev pub i_core : core.Expr
i_core = core.VarE 4 false (T.Class 0)

-- `e.f`, `e.m(..)` and `new C(..)`, with the names at 5 and at 4
abbrev pub get_of : ExprTree → List ℕ → ExprTree
get_of e text = GetE e (name text 5)

-- `e.m(..)`, with the method's name at 5
abbrev pub method_call_tree : ExprTree → List ℕ → ExprTrees → ExprTree
method_call_tree e text args = CallE e (name text 5) args

-- `new C(..)`, with the class's name at 4
abbrev pub new_of : List ℕ → ExprTrees → ExprTree
new_of text args = NewE (name text 4) args 3

-- `int y = 7;`, with the name at 5, and its core node with a slot
abbrev pub local_y : StmtTree
local_y = LocalS false Y.Int (name (codes "y") 5) (NumberE 7 8) 1

-- the core node of `int y = 7;` with this slot
abbrev pub y_at : ℕ → core.Stmt
y_at slot = core.LocalS slot false T.Int (core.IntE (pos 7))

-- `this.sold` and `this.twin.left`, which only Rare has
abbrev pub sold : ExprTree
sold = GetE (ThisE 13) (name (codes "sold") 14)

-- the core node of `this.sold`, the field 3 of the program
abbrev pub sold_core : core.Expr
sold_core = core.GetE core.ThisE 3

-- `this.twin.left`: a field of Rare, and a field that its object has of Item
abbrev pub twin_left : ExprTree
twin_left = GetE (GetE (ThisE 13) (name (codes "twin") 14)) (name (codes "left") 15)

-- the core node of `this.twin.left`: the field 2 and then the field 1
abbrev pub twin_left_core : core.Expr
twin_left_core = core.GetE (core.GetE core.ThisE 2) 1

-- `{ int y = 7; }`, and its core node with a slot
abbrev pub block_y : StmtTree
block_y = BlockS (one_stmt local_y) 20

-- the core node of `{ int y = 7; }`, where `y` has this slot
abbrev pub block_y_at : ℕ → core.Stmt
block_y_at slot = core.BlockS (core.and_stmt (y_at slot) core.no_stmts)
