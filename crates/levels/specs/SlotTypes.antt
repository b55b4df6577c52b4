-- Types as far as references go: of slots, of expressions, and of values in a heap. A function gives each class a mark; classes that extend
-- each other have one mark, and a reference of a class type leads to an object whose class has the mark of that type.
use Rattle.std.specs.Prelude.{◌≡◌, ℕ, zero, suc, List, [], ◌∷◌, ◌++◌, Option, Some, None, slice_get}
use Rattle.core_program.specs.declared.types.CoreType.{CoreType}
use Rattle.core_program.specs.declared.types.CoreType.TheVariants as type
use Rattle.core_program.specs.Core.{Program, Class, Method, Expr, ThisE, VarE, AndE, OrE, GetE, CallE, NewE}
use Rattle.core_program.specs.Core.{Stmt, Stmts, BlockS, LocalS, IfS, WhileS, SyncS, no_stmts, and_stmt}
use Rattle.core_program.specs.Dispatch.{above_of}
use Rattle.core_program.specs.Types.{field_type, field_types, parameter_types}
use Rattle.state.specs.declared.value.Address.{Address}
use Rattle.state.specs.declared.value.Value.{Value}
use Rattle.state.specs.declared.value.Value.TheVariants as value
use Rattle.state.specs.Memory.{Object}

-- a type, or none where no reference may stand
abbrev pub SlotType : Type 0
SlotType = Option CoreType

-- The types of the locals of a statement and of a block.
abbrev mutual
  -- the types of the locals that a statement declares, in order
  pub local_types : Stmt → List CoreType
  local_types (BlockS ss) = local_types_each ss
  local_types (LocalS x is_final ty e) = ty ∷ []
  local_types (IfS c s t) = local_types s ++ local_types t
  local_types (WhileS c s) = local_types s
  local_types (SyncS p s) = local_types s
  local_types _ = []

  -- the types of the locals that the statements of a block declare, one statement after the other
  pub local_types_each : Stmts → List CoreType
  local_types_each no_stmts = []
  local_types_each (and_stmt s ss) = local_types s ++ local_types_each ss

-- the types of a method's slots: `this`, the parameters, the locals in order of declaration
abbrev pub slot_types : Method → List CoreType
slot_types m = type.Class m.class ∷ (parameter_types m ++ local_types m.body)

-- what a method gives, where it is there and has a result
abbrev pub result_slot_type : Option Method → SlotType
result_slot_type None = None
result_slot_type (Some m) = m.result

-- the types of the arguments that a method takes
abbrev pub taken_by_method : Option Method → List CoreType
taken_by_method None = []
taken_by_method (Some m) = parameter_types m

-- the types of the arguments that a `new` of a class takes
abbrev pub taken_by_new : Program → Option Class → List CoreType
taken_by_new P None = []
taken_by_new P (Some c) = field_types P c.finals

-- the type of an expression, for slots of these types; none where it gives no reference
abbrev pub expression_type : Program → List CoreType → Expr → SlotType
expression_type P slots ThisE = slice_get slots 0
expression_type P slots (VarE x is_final ty) = slice_get slots x
expression_type P slots (AndE a b) = expression_type P slots b
expression_type P slots (OrE a b) = expression_type P slots b
expression_type P slots (GetE e f) = field_type (slice_get P.fields f)
expression_type P slots (CallE e m args) = result_slot_type (slice_get P.methods m)
expression_type P slots (NewE c args) = Some (type.Class c)
expression_type P slots _ = None

-- a class that extends another has its mark
abbrev pub AreMarked : Program → (ℕ → ℕ) → Type 0
AreMarked P mark = (c d : ℕ) → above_of P c ≡ Some d → mark c ≡ mark d

module _ (mark : ℕ → ℕ) where
  -- the type is a class with this mark
  abbrev pub IsMarked : SlotType → ℕ → Type 0
  IsMarked (Some (type.Class c)) n = mark c ≡ n
  IsMarked _ n = ⊥

  -- what has the first type has the second
  abbrev pub Suits : SlotType → SlotType → Type 0
  Suits given wanted = (n : ℕ) → IsMarked given n → IsMarked wanted n

  -- the same of lists, one by one
  abbrev pub SuitEach : List SlotType → List CoreType → Type 0
  SuitEach [] [] = Unit {0}
  SuitEach [] (w ∷ ws) = ⊥
  SuitEach (g ∷ gs) [] = ⊥
  SuitEach (g ∷ gs) (w ∷ ws) = Suits g (Some w) × SuitEach gs ws

  -- where the value is a reference, there is an object, and its class has the type's mark
  abbrev pub Has : (Address → Option Object) → SlotType → Value → Type 0
  Has objects t (value.Ref a) = (o : Object) × (objects a ≡ Some o) × IsMarked t (mark o.class)
  Has objects t _ = Unit {0}

  -- as many values as types, each of its type
  abbrev pub HasEach : (Address → Option Object) → List SlotType → List Value → Type 0
  HasEach objects [] [] = Unit {0}
  HasEach objects [] (v ∷ vs) = ⊥
  HasEach objects (t ∷ ts) [] = ⊥
  HasEach objects (t ∷ ts) (v ∷ vs) = Has objects t v × HasEach objects ts vs

-- Operands, the topmost first.

-- the type of the topmost operand, and what stands under it
abbrev pub top_type : List SlotType → SlotType
top_type [] = None
top_type (t ∷ ts) = t

-- the types of the operands below the topmost one
abbrev pub under_types : List SlotType → List SlotType
under_types [] = []
under_types (t ∷ ts) = ts

-- the types of the n topmost operands, the deepest first, before the ones given; and what stands under them
abbrev pub taken_types : ℕ → List SlotType → List SlotType → List SlotType
taken_types zero found ts = found
taken_types (suc n) found ts = taken_types n (top_type ts ∷ found) (under_types ts)

-- the types of the operands below the n topmost ones
abbrev pub dropped_types : ℕ → List SlotType → List SlotType
dropped_types zero ts = ts
dropped_types (suc n) ts = dropped_types n (under_types ts)
