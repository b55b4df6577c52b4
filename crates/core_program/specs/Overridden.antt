-- The methods that a method of a program in memory overrides.
use Rattle.std.specs.Prelude.{ℕ, ◌==◌, length, Option, Some, None, option_map, option_and_then, slice_get, if◌then◌else◌}
use Rattle.core_program.specs.declared.program.CoreProgram.{CoreProgram}
use Rattle.core_program.specs.Core.{Method}
use Rattle.core_program.specs.Pairs.{KeptClass, is_own_of, nearest_named}
use Rattle.core_program.specs.Views.{kept_classes, program_of}

-- a class, where the method is one of its own
abbrev pub class_owning : ℕ → KeptClass → Option KeptClass
class_owning m c = if is_own_of m c then Some c else None

-- the number of a method's class
abbrev pub owner : CoreProgram → ℕ → Option ℕ
owner p m = option_map (λ (x : Method). x.class) (slice_get (program_of p).methods m)

-- the class of a method, among whose own methods it stands
abbrev pub class_of_method : CoreProgram → ℕ → Option KeptClass
class_of_method p m = option_and_then (λ k. option_and_then (class_owning m) (slice_get (kept_classes p) k)) (owner p m)

-- another method than this one
abbrev pub other_than : ℕ → ℕ → Option ℕ
other_than m n = if n == m then None else Some n

-- the next method that a method of this class and with this name overrides: the nearest above with its name
abbrev pub next_named : CoreProgram → ℕ → KeptClass → ℕ → Option ℕ
next_named p m c name = option_and_then (other_than m) (nearest_named (kept_classes p) p.names.items (length (kept_classes p)) c.above name)

-- the next method that a method overrides: what the class above runs for its name
abbrev pub next_overridden : CoreProgram → ℕ → Option ℕ
next_overridden p m = option_and_then (λ c. option_and_then (next_named p m c) (slice_get p.names.items m)) (class_of_method p m)
