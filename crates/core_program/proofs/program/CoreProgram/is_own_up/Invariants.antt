use Rattle.std.proofs.Common.{◌≡◌, ◌-◌, length}
use Rattle.core_program.specs.Pairs.{is_own_up}
use Rattle.core_program.specs.Views.{kept_classes}
use Rattle.core_program.proofs.program.CoreProgram.is_own_up.Given as goal

abbrev pub invariant-loop : goal.invariant-loop
invariant-loop l =
    let parts = kept_classes l.self in
    is_own_up parts l.self.names.items (length parts - l.counter) l.at l.method ≡ is_own_up parts l.self.names.items (length parts) l.fn.from l.method
