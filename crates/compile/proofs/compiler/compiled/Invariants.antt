use Rattle.std.proofs.Common.{◌≡◌, ◌++◌, drop, vec_len}
use Rattle.std.specs.Prelude.{map}
use Rattle.core_program.specs.Views.{method_of}
use Rattle.compile.specs.Emission.{emitted_methods, method_entries}
use Rattle.compile.specs.Rooms.{method_rooms}
use Rattle.compile.proofs.compiler.compiled.Given as goal

abbrev pub invariant-loop-method : goal.invariant-loop-method
invariant-loop-method l =
    (l.code.items ++ emitted_methods (map method_of (drop l.method-index l.method-items)) (vec_len l.code) ≡ emitted_methods (map method_of l.method-items) 0)
    × (l.entry.items ++ method_entries (map method_of (drop l.method-index l.method-items)) (vec_len l.code) ≡ method_entries (map method_of l.method-items) 0)
    × (l.room.items ++ method_rooms (map method_of (drop l.method-index l.method-items)) ≡ method_rooms (map method_of l.method-items))
