-- Statements: the core node of each, what is in scope after it, and its faults.
use Rattle.std.specs.Prelude.{ℕ, ◌+◌, Bool, true, false, not, ◌&&◌, nat_lt, List, [], ◌∷◌, ◌++◌, Option, Some, None, option_map, is_none, ok_or, Result, Ok, slice_get, if◌then◌else◌}
use Rattle.core_program.specs.declared.types.CoreType.{CoreType}
use Rattle.core_program.specs.Core.{Expr, Stmt, Stmts, EmptyS, BlockS, LocalS, SetVarS, SetFieldS, DoS, IfS, WhileS, SyncS, ReturnS, PrintS, StartS, no_stmts, and_stmt}
use Rattle.core_program.specs.Types.{Variable}
use Rattle.core_program.specs.Typed.{is_call_or_new, gives_value, most_locals}
use Rattle.syntax.specs.declared.tree.Name.{Name}
use Rattle.syntax.specs.Trees.{StmtTree, StmtTrees, IfElseS, more_stmts}
use Rattle.syntax.specs.Trees as tree
use Rattle.classes.specs.Table.{TableData, ClassData}
use Rattle.classes.specs.Seen.{FieldData}
use Rattle.typing.specs.declared.fault.TypeFault.{TypeFault}
use Rattle.typing.specs.declared.fault.TypeFault.TheVariants.{UnknownName, NoRule, FinalAssigned, MissingReturn, Unreachable, TooManyLocals, Redeclared}
use Rattle.typing.specs.Rulings.{gain, loss, demand, then_rule, ruled, broken, both}
use Rattle.typing.specs.Scopes.{Scope, variable, is_bound}
use Rattle.typing.specs.Rules.{TypedData, is_int, is_boolean, receiver_class, type_rule, field_rule, fit_rule}
use Rattle.typing.specs.Locks.{lock_rule}
use Rattle.typing.specs.Exprs.{elaborated, expr_faults}
use Rattle.syntax.specs.Offsets.{begins_at}
use Rattle.typing.specs.Completion.{completes, locals_in}

-- ---- the rule of each kind of statement

-- a declaration: the value fits the declared type; the offset is that of the local's name
abbrev pub local_rule : TableData → ℕ → Bool → ℕ → CoreType × TypedData → Result Stmt TypeFault
local_rule t slot is_final at p = then_rule (fit_rule t at p.0 p.1) (λ e. Ok (LocalS slot is_final p.0 e))

-- the variable that is assigned: it is in scope and isn't final
abbrev pub target_rule : Scope → Name → Result Variable TypeFault
target_rule scope n =
    then_rule (ok_or (variable scope n.text) (UnknownName n.at)) (λ v. demand (not v.is_final) (FinalAssigned n.at) v)

-- an assignment to a variable: the value fits the variable's type
abbrev pub set_rule : TableData → ℕ → Variable × TypedData → Result Stmt TypeFault
set_rule t at p = then_rule (fit_rule t at p.0.ty p.1) (λ e. Ok (SetVarS p.0.slot e))

-- the receiver and field that are assigned: the field follows the rule of a read, and isn't final
abbrev pub field_target : TableData → Name → TypedData → Result (Expr × (ℕ × FieldData)) TypeFault
field_target t n e = then_rule (field_rule t n e.ty) (λ f. demand (not f.1.is_final) (FinalAssigned n.at) (e.node, f))

-- an assignment to a field: the value fits the field's type
abbrev pub put_rule : TableData → ℕ → (Expr × (ℕ × FieldData)) × TypedData → Result Stmt TypeFault
put_rule t at p = then_rule (fit_rule t at p.0.1.1.ty p.1) (λ e. Ok (SetFieldS p.0.0 p.0.1.0 e))

-- a call or a `new` of any type; a result is dropped
abbrev pub do_rule : ℕ → TypedData → Result Stmt TypeFault
do_rule at e = demand (is_call_or_new e.node) (NoRule at) (DoS e.node (gives_value e.ty))

-- a condition is boolean
abbrev pub condition_rule : ℕ → TypedData → Result Expr TypeFault
condition_rule at c = demand (is_boolean c.ty) (NoRule at) c.node

-- a return without a value: the method is void
abbrev pub return_rule : ℕ → Option CoreType → Result Stmt TypeFault
return_rule at returns = demand (is_none returns) (NoRule at) (ReturnS None)

-- a return of a value: it fits the result
abbrev pub value_rule : TableData → ℕ → Option CoreType → TypedData → Result Stmt TypeFault
value_rule t at returns e = then_rule (ok_or returns (NoRule at)) (λ ty. then_rule (fit_rule t at ty e) (λ v. Ok (ReturnS (Some v))))

-- a print: int
abbrev pub print_rule : ℕ → TypedData → Result Stmt TypeFault
print_rule at e = demand (is_int e.ty) (NoRule at) (PrintS e.node)

-- whether there is a class, and it counts as `implements Runnable`
abbrev pub counts_runnable : Option ClassData → Bool
counts_runnable None = false
counts_runnable (Some c) = c.runnable

-- whether a type is a class that counts as `implements Runnable`
abbrev pub is_runnable : TableData → Option ℕ → Bool
is_runnable t None = false
is_runnable t (Some c) = counts_runnable (slice_get t.classes c)

-- a start: a class that counts as `implements Runnable`
abbrev pub start_rule : TableData → ℕ → TypedData → Result Stmt TypeFault
start_rule t at e = demand (is_runnable t (receiver_class e.ty)) (NoRule at) (StartS e.node)

-- ---- declarations

-- of a local, where so many stand before it: it is one too many
abbrev pub too_many : ℕ → Name → List TypeFault
too_many before n = if nat_lt before most_locals then [] else TooManyLocals n.at ∷ []

-- of a local: it has the name of a local or parameter in scope
abbrev pub redeclared : Scope → Name → List TypeFault
redeclared scope n = if is_bound scope n.text then Redeclared n.at ∷ [] else []

-- what is in scope after a declaration; a local of an unknown type or past the limit isn't, and has its fault before anything
-- that could name it
abbrev pub declared : Scope → ℕ → ℕ → Bool → Name → Option CoreType → Scope
declared scope slot before is_final n None = scope
declared scope slot before is_final n (Some ty) =
    if nat_lt before most_locals
    then scope ++ record { name = n.text; variable = record { slot = slot; is_final = is_final; ty = ty } } ∷ []
    else scope

-- the type of the local that a statement declares
abbrev pub declared_type : TableData → StmtTree → Option CoreType
declared_type t (tree.LocalS fin ty n e at) = gain (type_rule t ty)
declared_type t _ = None

-- a declaration or an assignment, by itself; any other statement counts as an empty one
abbrev pub assignment : StmtTree → StmtTree
assignment (tree.LocalS fin ty n e at) = tree.LocalS fin ty n e at
assignment (tree.SetVarS n e at) = tree.SetVarS n e at
assignment (tree.SetFieldS e n value at) = tree.SetFieldS e n value at
assignment _ = tree.EmptyS 0

-- of a statement of a block that can't be reached
abbrev pub unreachable : Bool → StmtTree → List TypeFault
unreachable true s = []
unreachable false s = Unreachable (begins_at s) ∷ []

-- the core node of an `if` with an else part, of its condition and its two branches
abbrev pub if_node : Expr × (Stmt × Stmt) → Stmt
if_node p = IfS p.0 p.1.0 p.1.1

-- ---- statements

-- with this class table, in a method of this class and with this result, whose first declared local has this slot
module _ (t : TableData) (class : ℕ) (returns : Option CoreType) (first : ℕ) where
  -- what is in scope after a statement, where so many locals are declared before it
  abbrev pub scope_after : Scope → ℕ → StmtTree → Scope
  scope_after scope before (tree.LocalS fin ty n e at) = declared scope (first + before) before fin n (gain (type_rule t ty))
  scope_after scope before _ = scope

  abbrev mutual
    -- the core node of a statement, with these variables in scope and so many locals declared before it
    pub stmt_core : Scope → ℕ → StmtTree → Option Stmt
    stmt_core scope before (tree.EmptyS at) = Some EmptyS
    stmt_core scope before (tree.BlockS ss at) = option_map BlockS (block_core scope before ss)
    stmt_core scope before (tree.LocalS fin ty n e at) =
        if nat_lt before most_locals
        then ruled (local_rule t (first + before) fin n.at) (both (gain (type_rule t ty)) (elaborated t class scope e))
        else None
    stmt_core scope before (tree.SetVarS n e at) =
        ruled (set_rule t at) (both (gain (target_rule scope n)) (elaborated t class scope e))
    stmt_core scope before (tree.SetFieldS e n value at) =
        ruled (put_rule t at) (both (ruled (field_target t n) (elaborated t class scope e)) (elaborated t class scope value))
    stmt_core scope before (tree.DoS e at) = ruled (do_rule at) (elaborated t class scope e)
    stmt_core scope before (tree.IfS c s at) =
        option_map (λ p. IfS p.0 p.1 EmptyS) (both (ruled (condition_rule at) (elaborated t class scope c)) (stmt_core scope before s))
    stmt_core scope before (IfElseS c s u at) =
        option_map if_node
        (both (ruled (condition_rule at) (elaborated t class scope c))
        (both (stmt_core scope before s) (stmt_core scope (before + locals_in s) u)))
    stmt_core scope before (tree.WhileS c s at) =
        option_map (λ p. WhileS p.0 p.1) (both (ruled (condition_rule at) (elaborated t class scope c)) (stmt_core scope before s))
    stmt_core scope before (tree.SyncS l ss at) =
        option_map (λ p. SyncS p.0 (BlockS p.1)) (both (gain (lock_rule t class scope l)) (block_core scope before ss))
    stmt_core scope before (tree.ReturnS None at) = gain (return_rule at returns)
    stmt_core scope before (tree.ReturnS (Some e) at) = ruled (value_rule t at returns) (elaborated t class scope e)
    stmt_core scope before (tree.PrintS e at) = ruled (print_rule at) (elaborated t class scope e)
    stmt_core scope before (tree.StartS e at) = ruled (start_rule t at) (elaborated t class scope e)

    -- the core nodes of the statements of a block
    pub block_core : Scope → ℕ → StmtTrees → Option Stmts
    block_core scope before tree.no_stmts = Some no_stmts
    block_core scope before (more_stmts s ss) =
        option_map (λ p. and_stmt p.0 p.1)
        (both (stmt_core scope before s) (block_core (scope_after scope before s) (before + locals_in s) ss))

  abbrev mutual
    -- the faults of a statement and of its parts
    pub stmt_faults : Scope → ℕ → StmtTree → List TypeFault
    stmt_faults scope before (tree.EmptyS at) = []
    stmt_faults scope before (tree.BlockS ss at) = block_faults scope before true ss
    stmt_faults scope before (tree.LocalS fin ty n e at) =
        loss (type_rule t ty)
        ++ (expr_faults t class scope e
        ++ (broken (local_rule t (first + before) fin n.at) (both (gain (type_rule t ty)) (elaborated t class scope e))
        ++ (too_many before n ++ redeclared scope n)))
    stmt_faults scope before (tree.SetVarS n e at) =
        loss (target_rule scope n)
        ++ (expr_faults t class scope e
        ++ broken (set_rule t at) (both (gain (target_rule scope n)) (elaborated t class scope e)))
    stmt_faults scope before (tree.SetFieldS e n value at) =
        expr_faults t class scope e
        ++ (broken (field_target t n) (elaborated t class scope e)
        ++ (expr_faults t class scope value
        ++ broken (put_rule t at) (both (ruled (field_target t n) (elaborated t class scope e)) (elaborated t class scope value))))
    stmt_faults scope before (tree.DoS e at) = expr_faults t class scope e ++ broken (do_rule at) (elaborated t class scope e)
    stmt_faults scope before (tree.IfS c s at) =
        expr_faults t class scope c ++ (broken (condition_rule at) (elaborated t class scope c) ++ stmt_faults scope before s)
    stmt_faults scope before (IfElseS c s u at) =
        expr_faults t class scope c
        ++ (broken (condition_rule at) (elaborated t class scope c)
        ++ (stmt_faults scope before s ++ stmt_faults scope (before + locals_in s) u))
    stmt_faults scope before (tree.WhileS c s at) =
        expr_faults t class scope c ++ (broken (condition_rule at) (elaborated t class scope c) ++ stmt_faults scope before s)
    stmt_faults scope before (tree.SyncS l ss at) = loss (lock_rule t class scope l) ++ block_faults scope before true ss
    stmt_faults scope before (tree.ReturnS None at) = loss (return_rule at returns)
    stmt_faults scope before (tree.ReturnS (Some e) at) =
        expr_faults t class scope e ++ broken (value_rule t at returns) (elaborated t class scope e)
    stmt_faults scope before (tree.PrintS e at) = expr_faults t class scope e ++ broken (print_rule at) (elaborated t class scope e)
    stmt_faults scope before (tree.StartS e at) = expr_faults t class scope e ++ broken (start_rule t at) (elaborated t class scope e)

    -- the faults of the statements of a block, the first of which can be reached or not
    pub block_faults : Scope → ℕ → Bool → StmtTrees → List TypeFault
    block_faults scope before live tree.no_stmts = []
    block_faults scope before live (more_stmts s ss) =
        unreachable live s
        ++ (stmt_faults scope before s
        ++ block_faults (scope_after scope before s) (before + locals_in s) (live && completes s) ss)

-- of a body that can complete and must not
abbrev pub return_faults : Bool → ℕ → List TypeFault
return_faults missing at = if missing then MissingReturn at ∷ [] else []
