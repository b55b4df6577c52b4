-- A set of held paths with one more path.
use Rattle.std.proofs.Common.{◌≡◌, true, ◌||◌, ap}
use Rattle.paths.specs.Paths.{PathData}
use Rattle.paths.proofs.PathOrder.{eq_itself}
use Rattle.algebra.specs.HeldPaths.{Held, with_path}

-- a path is in the set with it
pub with_itself : (p : PathData) (H : Held) → with_path p H p ≡ true
with_itself p H = ap (λ t. t || H p) (eq_itself p)
