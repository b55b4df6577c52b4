-- How values that look at one path at most are made one, and nodes whose first concludes such a value.
use Rattle.std.specs.Prelude.{◌≡◌, ℕ, ◌∷◌}
use Rattle.algebra.specs.declared.basic.Basic.{Basic}
use Rattle.algebra.specs.Basics.{join_of, seq_of}
use Rattle.algebra.specs.HeldPaths.{Held}
use Rattle.books.specs.Derivations.{Nodes}
use Rattle.effects.specs.declared.accesses.Branching.{Branching}
use Rattle.effects.specs.Accesses.{branching_value}
use Rattle.book_check.specs.Conclusions.{conclusions}
use Rattle.effects.specs.Rules.{Value}
use Rattle.book_check.specs.declared.branching.Way.{Way}
use Rattle.book_check.specs.declared.branching.Way.TheVariants.{Seq, Join}

-- two basics made one
abbrev pub combined_of : Way → Basic → Basic → Basic
combined_of Seq = seq_of
combined_of Join = join_of

-- the first of some nodes concludes this value, and these are the others
pub record IsFirstValue (V : ℕ → Value) (all : Nodes) (x : Branching) (rest : Nodes) : Type 0 where
  pub first : ℕ
  pub are : conclusions V all ≡ V first ∷ conclusions V rest
  pub value : (H : Held) → V first H ≡ branching_value x H
