use Rattle.std.proofs.Common.{◌≡◌, ◌++◌, Some, drop, map, position, bytes_eq}
use Rattle.classes.specs.Views.{method_data}
use Rattle.typing.proofs.numbers.places_in.Given as goal

-- the numbers so far, and the places of the names that are left
abbrev pub invariant-loop-method : goal.invariant-loop-method
invariant-loop-method l =
    map (λ n. Some n) l.numbers.items ++ map (λ m. position (bytes_eq m.name) l.names) (map method_data (drop l.method-index l.methods))
    ≡ map (λ m. position (bytes_eq m.name) l.names) (map method_data l.methods)
