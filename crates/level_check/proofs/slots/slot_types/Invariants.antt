use Rattle.std.proofs.Common.{◌≡◌, ◌∷◌, take}
use Rattle.std.specs.Prelude.{map}
use Rattle.core_program.specs.declared.types.CoreType.TheVariants as type
use Rattle.level_check.proofs.slots.slot_types.Given as goal

-- the type of `this`, and those of the parameters so far
abbrev pub invariant-loop-ty : goal.invariant-loop-ty
invariant-loop-ty l = l.types.items ≡ type.Class l.method.class ∷ map (λ p. p.1) (take l.ty-index l.ty-items)
