-- Expressions: the type and core node of each, and its faults.
use Rattle.std.specs.Prelude.{ℕ, List, [], ◌∷◌, ◌++◌, Option, Some, None, option_map, ok_or, Result, Err}
use Rattle.core_program.specs.Core.{TruthE, NullE, ThisE, no_exprs}
use Rattle.core_program.specs.Types.{NullT, boolean_type, class_type}
use Rattle.syntax.specs.declared.tree.Name.{Name}
use Rattle.syntax.specs.Trees.{ExprTree, ExprTrees, more_exprs}
use Rattle.syntax.specs.Trees as tree
use Rattle.classes.specs.Table.{TableData}
use Rattle.typing.specs.declared.fault.TypeFault.{TypeFault}
use Rattle.typing.specs.declared.fault.TypeFault.TheVariants.{UnknownName}
use Rattle.typing.specs.Rulings.{gain, loss, ruled, broken, both}
use Rattle.typing.specs.Scopes.{Scope, variable}
use Rattle.typing.specs.Rules.{TypedData, TypedList, typed, with_argument, number_rule, least_typed, variable_typed, not_rule, neg_rule, binary_rule, get_rule, method_rule, call_rule, class_rule, new_rule}

-- the variable that a name means
abbrev pub variable_rule : Scope → Name → Result TypedData TypeFault
variable_rule scope n = ok_or (option_map variable_typed (variable scope n.text)) (UnknownName n.at)

-- the fault of a name that the receiver's class lacks
abbrev pub unknown_only : {A : Type 0} → Result A TypeFault → List TypeFault
unknown_only (Err (UnknownName at)) = UnknownName at ∷ []
unknown_only _ = []

-- the fault of a call itself: where the arguments have no types, only a method that the class lacks
abbrev pub call_fault : TableData → Name → Option TypedData → Option TypedList → List TypeFault
call_fault t n None args = []
call_fault t n (Some e) None = unknown_only (method_rule t n e.ty)
call_fault t n (Some e) (Some args) = loss (call_rule t n (e, args))

-- the fault of a `new` itself: where the arguments have no types, only a name of no class
abbrev pub new_fault : TableData → Name → Option TypedList → List TypeFault
new_fault t n None = loss (class_rule t n)
new_fault t n (Some args) = loss (new_rule t n args)

-- with this class table, in this class, and with these variables in scope
module _ (t : TableData) (class : ℕ) (scope : Scope) where
  abbrev mutual
    -- the type and core node of an expression, where it has a type
    pub elaborated : ExprTree → Option TypedData
    elaborated (tree.NumberE n at) = gain (number_rule n at)
    elaborated (tree.LeastE at) = Some least_typed
    elaborated (tree.TruthE b at) = Some (typed boolean_type (TruthE b))
    elaborated (tree.NullE at) = Some (typed NullT NullE)
    elaborated (tree.ThisE at) = Some (typed (class_type class) ThisE)
    elaborated (tree.VarE n) = gain (variable_rule scope n)
    elaborated (tree.ParenE e at) = elaborated e
    elaborated (tree.NotE e at) = ruled (not_rule at) (elaborated e)
    elaborated (tree.NegE e at) = ruled (neg_rule at) (elaborated e)
    elaborated (tree.BinaryE op a b at) = ruled (binary_rule t op at) (both (elaborated a) (elaborated b))
    elaborated (tree.GetE e n) = ruled (get_rule t n) (elaborated e)
    elaborated (tree.CallE e n args) = ruled (call_rule t n) (both (elaborated e) (elaborated_each args))
    elaborated (tree.NewE n args at) = ruled (new_rule t n) (elaborated_each args)

    -- the types and core nodes of arguments, where each has a type
    pub elaborated_each : ExprTrees → Option TypedList
    elaborated_each tree.no_exprs = Some (record { types = []; nodes = no_exprs })
    elaborated_each (more_exprs e es) = option_map with_argument (both (elaborated e) (elaborated_each es))

  abbrev mutual
    -- the faults of an expression and of its parts
    pub expr_faults : ExprTree → List TypeFault
    expr_faults (tree.NumberE n at) = loss (number_rule n at)
    expr_faults (tree.LeastE at) = []
    expr_faults (tree.TruthE b at) = []
    expr_faults (tree.NullE at) = []
    expr_faults (tree.ThisE at) = []
    expr_faults (tree.VarE n) = loss (variable_rule scope n)
    expr_faults (tree.ParenE e at) = expr_faults e
    expr_faults (tree.NotE e at) = expr_faults e ++ broken (not_rule at) (elaborated e)
    expr_faults (tree.NegE e at) = expr_faults e ++ broken (neg_rule at) (elaborated e)
    expr_faults (tree.BinaryE op a b at) =
        expr_faults a ++ (expr_faults b ++ broken (binary_rule t op at) (both (elaborated a) (elaborated b)))
    expr_faults (tree.GetE e n) = expr_faults e ++ broken (get_rule t n) (elaborated e)
    expr_faults (tree.CallE e n args) =
        expr_faults e ++ (each_faults args ++ call_fault t n (elaborated e) (elaborated_each args))
    expr_faults (tree.NewE n args at) = each_faults args ++ new_fault t n (elaborated_each args)

    -- the faults of arguments
    pub each_faults : ExprTrees → List TypeFault
    each_faults tree.no_exprs = []
    each_faults (more_exprs e es) = expr_faults e ++ each_faults es
