use Rattle.std.proofs.Common.{◌≡◌, ◌-◌, length}
use Rattle.core_program.specs.Pairs.{nearest_named}
use Rattle.core_program.specs.Views.{kept_classes}
use Rattle.core_program.proofs.program.CoreProgram.nearest_named.Given as goal

abbrev pub invariant-loop : goal.invariant-loop
invariant-loop l =
    let parts = kept_classes l.self in
    nearest_named parts l.self.names.items (length parts - l.counter) l.at l.name ≡ nearest_named parts l.self.names.items (length parts) l.fn.from l.name
