use Rattle.std.proofs.Common.{◌≡◌, ◌++◌, drop, map}
use Rattle.typing.proofs.methods.variable_types.Given as goal

abbrev pub invariant-loop-bound : goal.invariant-loop-bound
invariant-loop-bound l =
    l.types.items ++ map (λ b. (b.variable.is_final, b.variable.ty)) (drop l.bound-index l.scope)
    ≡ map (λ b. (b.variable.is_final, b.variable.ty)) l.scope
