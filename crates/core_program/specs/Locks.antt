-- Lock expressions: `this`, a final parameter or a final local, followed by final fields, where the whole has a class type.
use Rattle.std.specs.Prelude.{ℕ, Bool, true, false, ◌&&◌, [], ◌∷◌, Option, Some, None, slice_get, if◌then◌else◌}
use Rattle.paths.specs.Paths.{PathData, extended_some}
use Rattle.core_program.specs.declared.types.CoreType.{CoreType}
use Rattle.core_program.specs.declared.types.CoreType.TheVariants.{Int, Boolean, Class}
use Rattle.core_program.specs.Core as core
use Rattle.core_program.specs.Core.{Expr, ThisE, VarE, GetE}

-- whether a type is a class
abbrev pub is_class : CoreType → Bool
is_class Int = false
is_class Boolean = false
is_class (Class c) = true

-- whether a path may go on through a field: it is there, final, and of a class type
abbrev pub leads_on : Option core.Field → Bool
leads_on None = false
leads_on (Some f) = f.is_final && is_class f.ty

-- the path of a slot alone
abbrev pub slot_path : ℕ → PathData
slot_path x = record { root = x; fields = [] }

-- the path of a field of a receiver that has this path or none
abbrev pub get_path : core.Program → ℕ → Option PathData → Option PathData
get_path P f receiver = if leads_on (slice_get P.fields f) then extended_some receiver (f ∷ []) else None

-- the path of an expression; none where it is no lock expression
abbrev pub path_of : core.Program → Expr → Option PathData
path_of P ThisE = Some (slot_path 0)
path_of P (VarE x true (Class c)) = Some (slot_path x)
path_of P (GetE e f) = get_path P f (path_of P e)
path_of P _ = None
