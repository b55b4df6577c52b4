use Rattle.std.proofs.Common.{◌≡◌, ◌==◌, ◌-◌, ◌++◌, not, filter, length}
use Rattle.core_program.specs.Pairs.{all_named}
use Rattle.core_program.specs.Views.{kept_classes}
use Rattle.core_program.proofs.program.CoreProgram.add_named.Given as goal

abbrev pub invariant-loop : goal.invariant-loop
invariant-loop l =
    let parts = kept_classes l.self in
    let names = l.self.names.items in
    l.all.items ++ filter (λ m. not (m == l.method)) (all_named parts names (length parts - l.counter) l.at l.name)
    ≡ l.initial.all.items ++ filter (λ m. not (m == l.method)) (all_named parts names (length parts) l.fn.from l.name)
