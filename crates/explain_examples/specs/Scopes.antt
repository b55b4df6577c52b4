-- A scope.
use Rattle.std.specs.Prelude.{ℕ, true, [], ◌∷◌, codes}
use Rattle.core_program.specs.declared.types.CoreType.TheVariants.{Int}
use Rattle.typing.specs.Scopes.{Scope}

-- the variable `x`, in this slot
abbrev pub one_variable : ℕ → Scope
one_variable slot = record { name = codes "x"; variable = record { slot = slot; is_final = true; ty = Int } } ∷ []
