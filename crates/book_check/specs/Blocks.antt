-- Statements of a block that change nothing.
use Rattle.std.specs.Prelude.{◌≡◌, ℕ, List, [], ◌∷◌, Bool, true, false}
use Rattle.algebra.specs.Basics.{seq_of}
use Rattle.algebra.specs.HeldPaths.{Held}
use Rattle.core_program.specs.Core.{Stmt, LocalS}
use Rattle.effects.specs.Rules.{Value}

-- whether the paths that are held behind a statement are those before it, which is so unless it declares a final local
abbrev pub keeps_paths : Stmt → Bool
keeps_paths (LocalS x true ty e) = false
keeps_paths _ = true

-- a value changes nothing before another
abbrev pub IsAbsorbed : (ℕ → Value) → Value → ℕ → Type 0
IsAbsorbed V v n = (H : Held) → seq_of (V n H) (v H) ≡ v H

-- none of these values does
abbrev pub AreAbsorbed : (ℕ → Value) → Value → List ℕ → Type 0
AreAbsorbed V v [] = Unit {0}
AreAbsorbed V v (n ∷ ns) = IsAbsorbed V v n × AreAbsorbed V v ns
