-- Core methods, made of their parts.
use Rattle.std.specs.Prelude.{ℕ, ◌+◌, Bool, List, Option, map}
use Rattle.paths.specs.Paths.{PathData}
use Rattle.core_program.specs.declared.types.CoreType.{CoreType}
use Rattle.core_program.specs.Core.{Method, Stmt}
use Rattle.syntax.specs.declared.tree.Param.{Param}
use Rattle.classes.specs.Table.{TableData, type_of}
use Rattle.typing.specs.Programs.{ascending}

-- the core method of a class, with this result and parameters of these types, whose first local has this slot, from its
-- locks and its body
abbrev pub method_with : ℕ → Option CoreType → ℕ → Bool → ℕ → List (Bool × CoreType) → ℕ → List PathData × Stmt → Method
method_with class returns first atomic at types locals p = record {
  class = class;
  place_at = at;
  annotated = atomic;
  requires_ = ascending p.0;
  params = types;
  result = returns;
  slots = first + locals;
  body = p.1;
}

-- the types of parameters
abbrev pub types_in : TableData → List Param → List (Bool × CoreType)
types_in t params = map (λ q. (q.is_final, type_of t.names q.ty)) params

-- the same, from the parameters as they are written
abbrev pub method_from : TableData → ℕ → Option CoreType → ℕ → Bool → ℕ → List Param → ℕ → List PathData × Stmt → Method
method_from t class returns first atomic at params locals p = method_with class returns first atomic at (types_in t params) locals p
