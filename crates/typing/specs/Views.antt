-- What the values of the code are as plain data.
use Rattle.std.specs.Prelude.{ℕ, List, map}
use Rattle.std.specs.Borrow.{Bor}
use Rattle.std.specs.declared.alloc.Global.{Global}
use Rattle.std.specs.declared.boxed.Box.{Box}
use Rattle.paths.specs.declared.ids.FieldId.{FieldId}
use Rattle.paths.specs.declared.ids.MethodId.{MethodId}
use Rattle.classes.specs.declared.entries.FieldEntry.{FieldEntry}
use Rattle.classes.specs.declared.entries.MethodEntry.{MethodEntry}
use Rattle.classes.specs.Seen.{FieldData}
use Rattle.classes.specs.Table.{MethodData}
use Rattle.classes.specs.Views.{method_data}
use Rattle.core_program.specs.Core.{Expr}
use Rattle.core_program.specs.Types.{NodeType, ValueT, NullT, VoidT}
use Rattle.core_program.specs.Views.{expr_of, exprs_from}
use Rattle.typing.specs.declared.types.ExprType.{ExprType}
use Rattle.typing.specs.declared.types.ExprType.TheVariants as ty
use Rattle.typing.specs.declared.types.TypedExpr.{TypedExpr}
use Rattle.typing.specs.declared.types.BoxedExpr.{BoxedExpr}
use Rattle.core_program.specs.declared.tree.CoreExpr.{CoreExpr}
use Rattle.typing.specs.Rules.{TypedData, TypedList}

-- the type that the code gives an expression, as the rules have it: of a value, of `null`, or of a call that gives nothing
abbrev pub type_data : ExprType → NodeType
type_data (ty.Value t) = ValueT t
type_data ty.Null = NullT
type_data ty.Void = VoidT

-- a typed expression as plain data: its type and its core node
abbrev pub typed_data : TypedExpr → TypedData
typed_data e = record { ty = type_data e.ty; node = expr_of e.node }

-- the core expression in a box
abbrev pub boxed_expr : Box CoreExpr Global → Expr
boxed_expr b = expr_of b.value

-- a typed expression whose node stands in a box, as plain data
abbrev pub boxed_data : BoxedExpr → TypedData
boxed_data e = record { ty = type_data e.ty; node = boxed_expr e.node }

-- the types of arguments, in order
abbrev pub types_of : List TypedExpr → List NodeType
types_of = map (λ e. type_data e.ty)

-- the core nodes of arguments, in order
abbrev pub argument_nodes : List TypedExpr → List CoreExpr
argument_nodes = map (λ e. e.node)

-- typed arguments as plain data: their types, and their nodes as one list
abbrev pub typed_list : List TypedExpr → TypedList
typed_list es = record { types = types_of es; nodes = exprs_from (argument_nodes es) }

-- a field that was looked up: its number and its entry in the table
abbrev pub field_found : FieldId × Bor FieldEntry → ℕ × FieldData
field_found f = (f.0, f.1.now)

-- a method that was looked up: its number and its entry in the table
abbrev pub method_found : MethodId × Bor MethodEntry → ℕ × MethodData
method_found m = (m.0, method_data m.1.now)

-- the receiver and the field of an assignment
abbrev pub target_data : Box CoreExpr Global × (FieldId × Bor FieldEntry) → Expr × (ℕ × FieldData)
target_data p = (boxed_expr p.0, field_found p.1)
