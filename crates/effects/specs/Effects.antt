-- The effects of parts. The rule of a part makes its effect of those of the parts that it is made of.
use Rattle.std.specs.Prelude.{ℕ, List, [], ◌∷◌}
use Rattle.paths.specs.Paths.{PathData}
use Rattle.core_program.specs.Core.{Program}
use Rattle.rules.specs.Effect.{Assignment, expr_effect, effect}
use Rattle.effects.specs.Parts.{Part, ExprP, StmtP}
use Rattle.effects.specs.Rules.{Value}

module _ (P : Program) (rel : ℕ → List PathData) (A : Assignment) where
  -- the effect of a part
  abbrev pub part_effect : Part → Value
  part_effect (ExprP e) = expr_effect P rel A e
  part_effect (StmtP s) = effect P rel A s

  -- the effects of parts, one by one
  abbrev pub effects_of : List Part → List Value
  effects_of [] = []
  effects_of (x ∷ xs) = part_effect x ∷ effects_of xs
