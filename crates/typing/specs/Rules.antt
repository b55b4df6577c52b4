-- The rule of each kind of node: what it gives for the types of its parts, or the fault that is told.
use Rattle.std.specs.Prelude.{ℕ, ◌^◌, Bool, true, false, ◌&&◌, nat_lt, List, [], ◌∷◌, map, flat_map, reverse, filter, unwrap_or, Option, Some, None, option_map, option_and_then, ok_or, Result, Ok, slice_get, pos, neg_ℤ, take, drop, length}
use Rattle.core_program.specs.declared.types.CoreType.{CoreType}
use Rattle.core_program.specs.declared.types.CoreType.TheVariants as T
use Rattle.core_program.specs.declared.types.CoreOp.{CoreOp}
use Rattle.core_program.specs.declared.types.CoreOp.TheVariants as core_op
use Rattle.core_program.specs.Core.{Expr, Exprs, IntE, VarE, NotE, NegE, BinaryE, AndE, OrE, GetE, CallE, NewE, and_expr}
use Rattle.core_program.specs.Types.{NodeType, ValueT, int_type, boolean_type, class_type, result_type, fits, binary_type, Variable}
use Rattle.syntax.specs.declared.tree.Name.{Name}
use Rattle.syntax.specs.declared.tree.Op.{Op}
use Rattle.syntax.specs.declared.tree.Op.TheVariants as O
use Rattle.syntax.specs.declared.tree.TypeName.{TypeName}
use Rattle.syntax.specs.declared.tree.TypeName.TheVariants as Y
use Rattle.classes.specs.Table.{TableData, ClassData, MethodData, class_number, class_and_ancestors, is_of_kind, field_number, method_number}
use Rattle.classes.specs.Seen.{FieldData}
use Rattle.typing.specs.declared.fault.TypeFault.{TypeFault}
use Rattle.typing.specs.declared.fault.TypeFault.TheVariants.{UnknownName, NoRule}
use Rattle.typing.specs.Rulings.{demand, then_rule}

-- an expression's type and core node
pub record TypedData : Type 0 where
  pub ty : NodeType
  pub node : Expr

-- an expression's type together with its core node
abbrev pub typed : NodeType → Expr → TypedData
typed ty node = record { ty = ty; node = node }

-- the types and core nodes of arguments
pub record TypedList : Type 0 where
  pub types : List NodeType
  pub nodes : Exprs

-- arguments with one more before them
abbrev pub with_argument : TypedData × TypedList → TypedList
with_argument p = record { types = p.0.ty ∷ p.1.types; nodes = and_expr p.0.node p.1.nodes }

-- whether a value is an `int`
abbrev pub is_int : NodeType → Bool
is_int (ValueT T.Int) = true
is_int _ = false

-- whether a value is a `boolean`
abbrev pub is_boolean : NodeType → Bool
is_boolean (ValueT T.Boolean) = true
is_boolean _ = false

-- the class of an object's type
abbrev pub class_of_core_type : CoreType → Option ℕ
class_of_core_type (T.Class c) = Some c
class_of_core_type _ = None

-- the class of a receiver's type
abbrev pub receiver_class : NodeType → Option ℕ
receiver_class (ValueT t) = class_of_core_type t
receiver_class _ = None

-- ---- names

-- a type as it is written
abbrev pub type_rule : TableData → TypeName → Result CoreType TypeFault
type_rule t Y.Int = Ok T.Int
type_rule t Y.Boolean = Ok T.Boolean
type_rule t (Y.Class n) = ok_or (option_map T.Class (class_number t n.text)) (UnknownName n.at)

-- a field with its number
abbrev pub numbered_field : TableData → ℕ → Option (ℕ × FieldData)
numbered_field t f = option_map (λ d. (f, d)) (slice_get t.fields f)

-- the field of this name in a class, its own or from above
abbrev pub field_of_class : TableData → ℕ → List ℕ → Option (ℕ × FieldData)
field_of_class t c name = option_and_then (numbered_field t) (field_number t c name)

-- a method with its number
abbrev pub numbered_method : TableData → ℕ → Option (ℕ × MethodData)
numbered_method t m = option_map (λ d. (m, d)) (slice_get t.methods m)

-- the method of this name in a class, its own or from above
abbrev pub method_named : TableData → ℕ → List ℕ → Option (ℕ × MethodData)
method_named t c name = option_and_then (numbered_method t) (method_number t c name)

-- the field that a name means: the receiver has a class type, and its class has the field, its own or from above
abbrev pub field_rule : TableData → Name → NodeType → Result (ℕ × FieldData) TypeFault
field_rule t n receiver =
    then_rule (ok_or (receiver_class receiver) (NoRule n.at)) (λ c. ok_or (field_of_class t c n.text) (UnknownName n.at))

-- the method that a name means: the receiver has a class type, and its class has the method, its own or from above
abbrev pub method_rule : TableData → Name → NodeType → Result (ℕ × MethodData) TypeFault
method_rule t n receiver =
    then_rule (ok_or (receiver_class receiver) (NoRule n.at)) (λ c. ok_or (method_named t c n.text) (UnknownName n.at))

-- the class that a name means
abbrev pub class_rule : TableData → Name → Result ℕ TypeFault
class_rule t n = ok_or (class_number t n.text) (UnknownName n.at)

-- ---- expressions

-- a number: int; the grammar has none above the greatest int
abbrev pub number_rule : ℕ → ℕ → Result TypedData TypeFault
number_rule n at = demand (nat_lt n (2 ^ 31)) (NoRule at) (typed int_type (IntE (pos n)))

-- the least number: int
abbrev pub least_typed : TypedData
least_typed = typed int_type (IntE (neg_ℤ (pos (2 ^ 31))))

-- a local or parameter: its type
abbrev pub variable_typed : Variable → TypedData
variable_typed v = typed (ValueT v.ty) (VarE v.slot v.is_final v.ty)

-- `!`: boolean to boolean
abbrev pub not_rule : ℕ → TypedData → Result TypedData TypeFault
not_rule at e = demand (is_boolean e.ty) (NoRule at) (typed boolean_type (NotE e.node))

-- `-` before one part: int to int
abbrev pub neg_rule : ℕ → TypedData → Result TypedData TypeFault
neg_rule at e = demand (is_int e.ty) (NoRule at) (typed int_type (NegE e.node))

-- an operator on two values: two ints to int or boolean, and for `==` and `!=` two types of which one fits the other
abbrev pub operator_rule : TableData → CoreOp → ℕ → TypedData × TypedData → Result TypedData TypeFault
operator_rule t op at p =
    ok_or (option_map (λ ty. typed ty (BinaryE op p.0.node p.1.node)) (binary_type (is_of_kind t) op p.0.ty p.1.ty)) (NoRule at)

-- `&&` or `||`: two booleans to boolean
abbrev pub logical_rule : (Expr → Expr → Expr) → ℕ → TypedData × TypedData → Result TypedData TypeFault
logical_rule node at p =
    demand (is_boolean p.0.ty && is_boolean p.1.ty) (NoRule at) (typed boolean_type (node p.0.node p.1.node))

-- `&&`, or else `||`
abbrev pub logical_node : Bool → Expr → Expr → Expr
logical_node true = AndE
logical_node false = OrE

-- a sign between two parts
abbrev pub binary_rule : TableData → Op → ℕ → TypedData × TypedData → Result TypedData TypeFault
binary_rule t O.Or = logical_rule OrE
binary_rule t O.And = logical_rule AndE
binary_rule t O.Eq = operator_rule t core_op.Eq
binary_rule t O.Ne = operator_rule t core_op.Ne
binary_rule t O.Lt = operator_rule t core_op.Lt
binary_rule t O.Le = operator_rule t core_op.Le
binary_rule t O.Gt = operator_rule t core_op.Gt
binary_rule t O.Ge = operator_rule t core_op.Ge
binary_rule t O.Add = operator_rule t core_op.Add
binary_rule t O.Sub = operator_rule t core_op.Sub
binary_rule t O.Mul = operator_rule t core_op.Mul
binary_rule t O.Div = operator_rule t core_op.Div
binary_rule t O.Rem = operator_rule t core_op.Rem

-- a field read: the receiver has a class type; the field's type
abbrev pub get_rule : TableData → Name → TypedData → Result TypedData TypeFault
get_rule t n e = then_rule (field_rule t n e.ty) (λ f. Ok (typed (ValueT f.1.ty) (GetE e.node f.0)))

-- whether there are as many arguments as parameters, and each fits
abbrev pub fit_each : TableData → List NodeType → List CoreType → Bool
fit_each t [] [] = true
fit_each t [] (u ∷ us) = false
fit_each t (a ∷ rest) [] = false
fit_each t (a ∷ rest) (u ∷ us) = fits (is_of_kind t) a (ValueT u) && fit_each t rest us

-- the types of a method's parameters, in order
abbrev pub declared_parameter_types : MethodData → List CoreType
declared_parameter_types m = map (λ p. p.ty) m.params

-- a call: as many arguments as parameters, each fits; the result type or void
abbrev pub call_rule : TableData → Name → TypedData × TypedList → Result TypedData TypeFault
call_rule t n p =
    then_rule (method_rule t n p.0.ty)
    (λ m. demand (fit_each t p.1.types (declared_parameter_types m.1)) (NoRule n.at) (typed (result_type m.1.returns) (CallE p.0.node m.0 p.1.nodes)))

-- a class's own fields
abbrev pub own_fields_of : TableData → ClassData → List FieldData
own_fields_of t c = take (length c.field_names) (drop c.first_field t.fields)

-- the own fields of the class with this number
abbrev pub own_fields : TableData → ℕ → List FieldData
own_fields t c = unwrap_or (option_map (own_fields_of t) (slice_get t.classes c)) []

-- the fields of the class with this number, its own and those from above, the furthest ancestor's first
abbrev pub all_fields_of_class : TableData → ℕ → List FieldData
all_fields_of_class t c = flat_map (own_fields t) (reverse (class_and_ancestors t c))

-- the types of the final ones of these fields, in order
abbrev pub types_of_finals : List FieldData → List CoreType
types_of_finals fs = map (λ f. f.ty) (filter (λ f. f.is_final) fs)

-- the types of a class's final fields, in order
abbrev pub final_types : TableData → ℕ → List CoreType
final_types t c = types_of_finals (all_fields_of_class t c)

-- `new`: as many arguments as final fields, those from above first, each fits in order; the class
abbrev pub new_rule : TableData → Name → TypedList → Result TypedData TypeFault
new_rule t n args =
    then_rule (class_rule t n)
    (λ c. demand (fit_each t args.types (final_types t c)) (NoRule n.at) (typed (class_type c) (NewE c args.nodes)))

-- a value for a place of this type: it fits
abbrev pub fit_rule : TableData → ℕ → CoreType → TypedData → Result Expr TypeFault
fit_rule t at ty e = demand (fits (is_of_kind t) e.ty (ValueT ty)) (NoRule at) e.node
