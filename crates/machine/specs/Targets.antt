-- Which method runs for a call, as it is kept when it was found.
use Rattle.std.specs.Prelude.{◌≡◌, ◌==◌, ◌&&◌, ℕ, Bool, List, Some}
use Rattle.std.specs.Map.{lookup}
use Rattle.core_program.specs.Core.{Program}
use Rattle.core_program.specs.Dispatch.{target_of}

-- whether two calls ask for the same method of the same class
abbrev pub same_asked : ℕ × ℕ → ℕ × ℕ → Bool
same_asked p q = (p.0 == q.0) && (p.1 == q.1)

-- what is kept of a class and a method is the method that runs
abbrev pub AreFound : Program → List ((ℕ × ℕ) × ℕ) → Type 0
AreFound P kept = (class method runs : ℕ) → lookup (same_asked (class, method)) kept ≡ Some runs → target_of P class method ≡ Some runs
