-- The text that a reference lends.
use Rattle.std.specs.Prelude.{ℕ, List}
use Rattle.std.specs.Borrow.{Bor}

-- the bytes behind a reference
abbrev pub shows : Bor (List ℕ) → List ℕ
shows text = text.now
