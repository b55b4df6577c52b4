-- Texts that grow.
use Rattle.std.specs.Prelude.{◌≡◌, ◌++◌, ℕ, List}

-- the text that was there, and maybe bytes behind it
pub record KeepsText (old new : List ℕ) : Type 0 where
  pub behind : List ℕ
  pub whole : new ≡ old ++ behind
