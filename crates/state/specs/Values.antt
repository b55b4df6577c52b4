-- Values: what a missing one or one of another kind is read as, and the results of operators.
use Rattle.std.specs.Prelude.{ℕ, zero, suc, ℤ, pos, Bool, true, false, not, ◌&&◌, ◌==◌, List, [], ◌∷◌, Option, Some, None, int_lt, int_rem, if◌then◌else◌}
use Rattle.std.specs.Ordering.{int_eq}
use Rattle.std.specs.Int.{w32, int_wrapping_add, int_wrapping_sub, int_wrapping_mul, int_wrapping_div, int_wrapping_neg}
use Rattle.core_program.specs.declared.types.CoreOp.{CoreOp}
use Rattle.core_program.specs.declared.types.CoreOp.TheVariants.{Eq, Ne, Lt, Le, Gt, Ge, Add, Sub, Mul, Div, Rem}
use Rattle.core_program.specs.declared.types.UnaryOp.{UnaryOp}
use Rattle.core_program.specs.declared.types.UnaryOp.TheVariants.{Not, Neg}
use Rattle.core_program.specs.declared.types.CoreType.{CoreType}
use Rattle.core_program.specs.declared.types.CoreType.TheVariants as type
use Rattle.state.specs.declared.value.Address.{Address}
use Rattle.state.specs.declared.value.Value.{Value}
use Rattle.state.specs.declared.value.Value.TheVariants.{Int, Truth, Null, Ref}

-- what a field or slot holds that nothing was stored in
abbrev pub default_value : CoreType → Value
default_value type.Int = Int (pos 0)
default_value type.Boolean = Truth false
default_value (type.Class c) = Null

-- Operands, the topmost first.

-- the topmost operand; a missing one reads as null
abbrev pub top : List Value → Value
top [] = Null
top (v ∷ vs) = v

-- what stands under it
abbrev pub under : List Value → List Value
under [] = []
under (v ∷ vs) = vs

-- the n topmost operands, the deepest first, before the ones given
abbrev pub popped : ℕ → List Value → List Value → List Value
popped zero found ops = found
popped (suc n) found ops = popped n (top ops ∷ found) (under ops)

-- what stands under the n topmost operands
abbrev pub dropped : ℕ → List Value → List Value
dropped zero ops = ops
dropped (suc n) ops = dropped n (under ops)

-- an int; another value reads as 0
abbrev pub as_int : Value → ℤ
as_int (Int n) = n
as_int _ = pos 0

-- a boolean; another value reads as false
abbrev pub as_truth : Value → Bool
as_truth (Truth b) = b
as_truth _ = false

-- the address that a value refers to; none for null and any other value
abbrev pub address_of : Value → Option Address
address_of (Ref a) = Some a
address_of _ = None

-- Operators.

-- whether two addresses are the same
abbrev pub address_eq : Address → Address → Bool
address_eq a b = a.thread == b.thread && a.count == b.count

-- whether two values are the same
abbrev pub value_eq : Value → Value → Bool
value_eq (Int x) (Int y) = int_eq x y
value_eq (Truth true) (Truth b) = b
value_eq (Truth false) (Truth b) = not b
value_eq Null Null = true
value_eq (Ref a) (Ref b) = address_eq a b
value_eq _ _ = false

-- what an operator gives of one value
abbrev pub unary_value : UnaryOp → Value → Value
unary_value Not v = Truth (not (as_truth v))
unary_value Neg v = Int (int_wrapping_neg w32 (as_int v))

-- a quotient or remainder, where the divisor isn't 0
abbrev pub unless_zero : ℤ → ℤ → Option Value
unless_zero divisor result = if int_eq divisor (pos 0) then None else Some (Int result)

-- what an operator gives of two ints in 32 bits; none for a zero divisor
abbrev pub binary_value : CoreOp → Value → Value → Option Value
binary_value Eq a b = Some (Truth (value_eq a b))
binary_value Ne a b = Some (Truth (not (value_eq a b)))
binary_value Lt a b = Some (Truth (int_lt (as_int a) (as_int b)))
binary_value Le a b = Some (Truth (not (int_lt (as_int b) (as_int a))))
binary_value Gt a b = Some (Truth (int_lt (as_int b) (as_int a)))
binary_value Ge a b = Some (Truth (not (int_lt (as_int a) (as_int b))))
binary_value Add a b = Some (Int (int_wrapping_add w32 (as_int a) (as_int b)))
binary_value Sub a b = Some (Int (int_wrapping_sub w32 (as_int a) (as_int b)))
binary_value Mul a b = Some (Int (int_wrapping_mul w32 (as_int a) (as_int b)))
binary_value Div a b = unless_zero (as_int b) (int_wrapping_div w32 (as_int a) (as_int b))
binary_value Rem a b = unless_zero (as_int b) (int_rem (as_int a) (as_int b))
