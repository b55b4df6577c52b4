-- What the definitions of expressions say in an environment, and those of statements inside a body.
use Rattle.std.specs.Prelude.{ℕ, Bool, List, Option}
use Rattle.core_program.specs.Core.{Stmt, Stmts}
use Rattle.syntax.specs.Trees.{StmtTree, StmtTrees, ExprTree, ExprTrees}
use Rattle.classes.specs.Views.{table_data}
use Rattle.typing.specs.declared.body.Body.{Body}
use Rattle.typing.specs.declared.exprs.Environment.{Environment}
use Rattle.typing.specs.declared.fault.TypeFault.{TypeFault}
use Rattle.typing.specs.Exprs.{elaborated, elaborated_each, expr_faults, each_faults}
use Rattle.typing.specs.Rules.{TypedData, TypedList}
use Rattle.typing.specs.Scopes.{Scope}
use Rattle.typing.specs.Stmts.{scope_after, stmt_core, block_core, stmt_faults, block_faults}

-- the type and core node of an expression in an environment
abbrev pub typed_there : Environment → ExprTree → Option TypedData
typed_there v = elaborated (table_data v.table.now) v.class v.scope.now

-- the types and core nodes of expressions in an environment, where each has one
abbrev pub typed_each : Environment → ExprTrees → Option TypedList
typed_each v = elaborated_each (table_data v.table.now) v.class v.scope.now

-- the faults of an expression in an environment
abbrev pub faults_there : Environment → ExprTree → List TypeFault
faults_there v = expr_faults (table_data v.table.now) v.class v.scope.now

-- the faults of expressions in an environment
abbrev pub faults_of_each : Environment → ExprTrees → List TypeFault
faults_of_each v = each_faults (table_data v.table.now) v.class v.scope.now

-- the type and core node of an expression
abbrev pub typed_in : Body → Scope → ExprTree → Option TypedData
typed_in b = elaborated (table_data b.table.now) b.class

-- the faults of an expression
abbrev pub expr_faults_in : Body → Scope → ExprTree → List TypeFault
expr_faults_in b = expr_faults (table_data b.table.now) b.class

-- what is in scope after a statement
abbrev pub scope_in : Body → Scope → ℕ → StmtTree → Scope
scope_in b = scope_after (table_data b.table.now) b.class b.returns b.first_local

-- the core node of a statement
abbrev pub core_in : Body → Scope → ℕ → StmtTree → Option Stmt
core_in b = stmt_core (table_data b.table.now) b.class b.returns b.first_local

-- the core nodes of the statements of a block
abbrev pub block_nodes : Body → Scope → ℕ → StmtTrees → Option Stmts
block_nodes b = block_core (table_data b.table.now) b.class b.returns b.first_local

-- the faults of a statement
abbrev pub faults_in : Body → Scope → ℕ → StmtTree → List TypeFault
faults_in b = stmt_faults (table_data b.table.now) b.class b.returns b.first_local

-- the faults of a block
abbrev pub block_faults_in : Body → Scope → ℕ → Bool → StmtTrees → List TypeFault
block_faults_in b = block_faults (table_data b.table.now) b.class b.returns b.first_local
