-- Types of expressions: the rule of each node, read on the core program.
use Rattle.std.specs.Prelude.{◌≡◌, ℕ, Bool, true, false, ◌||◌, List, [], ◌∷◌, map, Option, Some, None, slice_get, Contains}
use Rattle.std.specs.List.{filter_map}
use Rattle.core_program.specs.declared.types.CoreOp.{CoreOp}
use Rattle.core_program.specs.declared.types.CoreOp.TheVariants.{Eq, Ne, Lt, Le, Gt, Ge, Add, Sub, Mul, Div, Rem}
use Rattle.core_program.specs.declared.types.CoreType.{CoreType}
use Rattle.core_program.specs.declared.types.CoreType.TheVariants as type
use Rattle.core_program.specs.Core.{Program, Class, Field, Method, Expr, Exprs, IntE, TruthE, NullE, ThisE, VarE, NotE, NegE, BinaryE, AndE, OrE, GetE, CallE, NewE, no_exprs, and_expr}
use Rattle.core_program.specs.Locks.{is_class}
use Rattle.core_program.specs.Dispatch.{is_kind_of}

-- the type of a node: that of a value, that of `null`, or none for a call without a result
pub data NodeType : Type 0 where
  ValueT : CoreType → NodeType
  NullT : NodeType
  VoidT : NodeType

-- the type of an int
abbrev pub int_type : NodeType
int_type = ValueT type.Int

-- the type of a boolean
abbrev pub boolean_type : NodeType
boolean_type = ValueT type.Boolean

-- the type of an object of a class
abbrev pub class_type : ℕ → NodeType
class_type c = ValueT (type.Class c)

-- what a call gives of a method with this result or none
abbrev pub result_type : Option CoreType → NodeType
result_type None = VoidT
result_type (Some t) = ValueT t

-- whether a value's type fits another: they are the same, or the first is a class of the kind of the second, as this test says
abbrev pub type_fits : (ℕ → ℕ → Bool) → CoreType → CoreType → Bool
type_fits kind type.Int type.Int = true
type_fits kind type.Boolean type.Boolean = true
type_fits kind (type.Class c) (type.Class d) = kind c d
type_fits kind _ _ = false

-- whether a node's type fits another: those of values, or it is that of `null` and the other a class; void fits nothing
abbrev pub fits : (ℕ → ℕ → Bool) → NodeType → NodeType → Bool
fits kind (ValueT t) (ValueT u) = type_fits kind t u
fits kind NullT NullT = true
fits kind NullT (ValueT u) = is_class u
fits kind _ _ = false

-- the type of an operator on two ints, or none where they aren't
abbrev pub of_ints : NodeType → NodeType → NodeType → Option NodeType
of_ints result (ValueT type.Int) (ValueT type.Int) = Some result
of_ints result _ _ = None

-- the type of a comparison of two values, where one part's type fits the other's
abbrev pub of_equals : Bool → Option NodeType
of_equals true = Some boolean_type
of_equals false = None

-- the type that an operator gives for the types of its parts, where there is a rule
abbrev pub binary_type : (ℕ → ℕ → Bool) → CoreOp → NodeType → NodeType → Option NodeType
binary_type kind Add = of_ints int_type
binary_type kind Sub = of_ints int_type
binary_type kind Mul = of_ints int_type
binary_type kind Div = of_ints int_type
binary_type kind Rem = of_ints int_type
binary_type kind Lt = of_ints boolean_type
binary_type kind Le = of_ints boolean_type
binary_type kind Gt = of_ints boolean_type
binary_type kind Ge = of_ints boolean_type
binary_type kind Eq = λ a b. of_equals (fits kind a b || fits kind b a)
binary_type kind Ne = λ a b. of_equals (fits kind a b || fits kind b a)

-- a parameter or local that is in scope: its slot, whether it is final, and its type
pub record Variable : Type 0 where
  pub slot : ℕ
  pub is_final : Bool
  pub ty : CoreType

-- the type of a field, where there is one
abbrev pub field_type : Option Field → Option CoreType
field_type None = None
field_type (Some f) = Some f.ty

-- the types of some fields, in order
abbrev pub field_types : Program → List ℕ → List CoreType
field_types P = filter_map (λ f. field_type (slice_get P.fields f))

-- the types of a method's parameters, in order
abbrev pub parameter_types : Method → List CoreType
parameter_types m = map (λ p. p.1) m.params

-- in a program, for the class of `this` and the variables in scope
module _ (P : Program) (class : ℕ) (scope : List Variable) where
  abbrev mutual
    -- the rules of expressions: this one is typed, and has this type
    pub HasType : Expr → NodeType → Type 0
    HasType (IntE n) T = T ≡ int_type
    HasType (TruthE b) T = T ≡ boolean_type
    HasType NullE T = T ≡ NullT
    HasType ThisE T = T ≡ class_type class
    HasType (VarE x is_final ty) T = Contains scope (record { slot = x; is_final = is_final; ty = ty }) × (T ≡ ValueT ty)
    HasType (NotE e) T = HasType e boolean_type × (T ≡ boolean_type)
    HasType (NegE e) T = HasType e int_type × (T ≡ int_type)
    HasType (BinaryE op a b) T = (A : NodeType) × (B : NodeType) × HasType a A × HasType b B × (binary_type (is_kind_of P) op A B ≡ Some T)
    HasType (AndE a b) T = HasType a boolean_type × HasType b boolean_type × (T ≡ boolean_type)
    HasType (OrE a b) T = HasType a boolean_type × HasType b boolean_type × (T ≡ boolean_type)
    HasType (GetE e f) T = (field : Field) × (slice_get P.fields f ≡ Some field) × ((c : ℕ) × HasType e (class_type c) × (is_kind_of P c field.class ≡ true)) × (T ≡ ValueT field.ty)
    HasType (CallE e m args) T = (method : Method) × (slice_get P.methods m ≡ Some method) × ((c : ℕ) × HasType e (class_type c) × (is_kind_of P c method.class ≡ true)) × FitEach args (parameter_types method) × (T ≡ result_type method.result)
    HasType (NewE c args) T = (made : Class) × (slice_get P.classes c ≡ Some made) × FitEach args (field_types P made.finals) × (T ≡ class_type c)

    -- as many arguments as types, each of which fits its type
    pub FitEach : Exprs → List CoreType → Type 0
    FitEach no_exprs [] = Unit {0}
    FitEach no_exprs (t ∷ ts) = ⊥
    FitEach (and_expr e es) [] = ⊥
    FitEach (and_expr e es) (t ∷ ts) = ((T : NodeType) × HasType e T × (fits (is_kind_of P) T (ValueT t) ≡ true)) × FitEach es ts

  -- an expression is typed, and its type fits this one
  abbrev pub HasFit : Expr → CoreType → Type 0
  HasFit e t = (T : NodeType) × HasType e T × (fits (is_kind_of P) T (ValueT t) ≡ true)
