-- The least closed assignment of a program.
use Rattle.std.specs.Prelude.{◌≡◌, ◌&&◌, ℕ, List}
use Rattle.paths.specs.Paths.{PathData}
use Rattle.algebra.specs.HeldPaths.{Held, has_path}
use Rattle.core_program.specs.Core.{Program}
use Rattle.rules.specs.Effect.{Assignment}
use Rattle.rules.specs.Rules.{IsSubset, AtMost, IsAntitone, IsClosed}

-- the assignment falls and is closed; it is below every other one that falls and is closed, at each part of a method's
-- relevant paths, also at those that lack a required path; and of the paths of any other set only the relevant ones count
pub record IsLeast (P : Program) (rel : ℕ → List PathData) (A : Assignment) : Type 0 where
  pub falling : IsAntitone rel A
  pub closed : IsClosed P rel A
  pub below : (B : Assignment) → IsAntitone rel B → IsClosed P rel B →
      (m : ℕ) (H : Held) → IsSubset H (has_path (rel m)) → AtMost (A m H) (B m H)
  pub relevant : (m : ℕ) (H : Held) → A m H ≡ A m (λ q. has_path (rel m) q && H q)
