-- What the operations of an algebra do to the values at a set of held paths.
use Rattle.std.specs.Prelude.{◌≡◌, if◌then◌else◌}
use Rattle.paths.specs.Paths.{PathData}
use Rattle.algebra.specs.declared.basic.Basic.{Basic}
use Rattle.algebra.specs.Basics.{lift_of}
use Rattle.algebra.specs.HeldPaths.{Held, with_path}

-- the value of a synchronized part whose lock is p and whose body has the value v
abbrev pub sync_of : PathData → (Held → Basic) → Held → Basic
sync_of p v H = if H p then v H else lift_of (v (with_path p H))

-- what an algebra knew it still knows, with the same value at every set
pub record Keeps {S A : Type 0} (IsKnown : S → A → Type 0) (value : S → A → Held → Basic) (old new : S) : Type 0 where
  pub known : (x : A) → IsKnown old x → IsKnown new x
  pub same : (x : A) → IsKnown old x → (H : Held) → value new x H ≡ value old x H
