-- What the exchange needs of the program: guards lead through final fields.
use Rattle.std.specs.Prelude.{◌≡◌, ℕ, true, List, [], ◌∷◌, Some, slice_get}
use Rattle.paths.specs.Paths.{PathData}
use Rattle.core_program.specs.Core.{Program, Field}

-- each of these fields is there and final
abbrev pub AreFinal : Program → List ℕ → Type 0
AreFinal P [] = Unit {0}
AreFinal P (x ∷ xs) = (f : Field) × (slice_get P.fields x ≡ Some f) × (f.is_final ≡ true) × AreFinal P xs

-- of each field that has a guard, the guard's path leads through final fields alone
abbrev pub HasFinalGuards : Program → Type 0
HasFinalGuards P = (x : ℕ) (f : Field) (guard : PathData) → slice_get P.fields x ≡ Some f → f.guard ≡ Some guard → AreFinal P guard.fields
