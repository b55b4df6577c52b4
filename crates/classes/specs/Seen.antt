-- The fields and parameters of a class table as plain data.
use Rattle.std.specs.Prelude.{ℕ, Bool, List}
use Rattle.core_program.specs.declared.types.CoreType.{CoreType}

-- a field, with the number of its class
pub record FieldData : Type 0 where
  pub class : ℕ
  pub name : List ℕ
  pub is_final : Bool
  pub ty : CoreType

-- a parameter of a method
pub record ParamData : Type 0 where
  pub name : List ℕ
  pub is_final : Bool
  pub ty : CoreType
