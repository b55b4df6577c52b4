-- The guard of an access, as it is known there.
use Rattle.std.specs.Prelude.{ℕ, Bool, true, false, Option, Some, None, slice_get, if◌then◌else◌}
use Rattle.paths.specs.Paths.{PathData, extended_some}
use Rattle.core_program.specs.Core.{Program, Field}
use Rattle.rules.specs.declared.guard.Guard.{Guard}
use Rattle.rules.specs.declared.guard.Guard.TheVariants.{Final, Free, Named, Unnamed, WriteNamed, WriteUnnamed}

-- a guard whose path is known, or that is unnamed; of writes only, or of reads too
abbrev pub guard_by : (writes_only : Bool) → Option PathData → Guard
guard_by false None = Unnamed
guard_by false (Some p) = Named p
guard_by true None = WriteUnnamed
guard_by true (Some p) = WriteNamed p

-- the guard of a mutable field: free where it has none, else the receiver's path extended by the guard's fields
abbrev pub mutable_guard : (writes_only : Bool) → Option PathData → Option PathData → Guard
mutable_guard writes_only None receiver = Free
mutable_guard writes_only (Some guard) receiver = guard_by writes_only (extended_some receiver guard.fields)

-- the guard of a field, where there is one, for a receiver that has this path or none
abbrev pub field_guard : Option Field → Option PathData → Guard
field_guard None receiver = Unnamed
field_guard (Some f) receiver = if f.is_final then Final else mutable_guard f.writes_only f.guard receiver

-- the guard of a field by its id
abbrev pub guard_of : Program → ℕ → Option PathData → Guard
guard_of P f receiver = field_guard (slice_get P.fields f) receiver

-- a guard's path, where it has one
abbrev pub guard_path : Guard → Option PathData
guard_path (Named p) = Some p
guard_path (WriteNamed p) = Some p
guard_path _ = None
