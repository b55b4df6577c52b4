-- The offset at which too many locks are told.
use Rattle.std.specs.Prelude.{ℕ, Option, Some, None}
use Rattle.core_program.specs.Core.{Method}

-- the offset of a method's name; 0 where there is no method
abbrev pub name_offset : Option Method → ℕ
name_offset None = 0
name_offset (Some method) = method.place_at
