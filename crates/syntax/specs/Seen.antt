-- A name as plain data: `Name` stands for it wherever a definition or a clause speaks of one.
use Rattle.std.specs.Prelude.{ℕ, List}

-- the bytes of the text, and the offset of the first of them
pub record SeenName : Type 0 where
  pub text : List ℕ
  pub at : ℕ
