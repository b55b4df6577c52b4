use Rattle.std.proofs.Common.{◌≡◌, ℕ, ◌≤◌, length}
use Rattle.algebra.specs.declared.basic.Basic.{Basic}
use Rattle.algebra.specs.HeldPaths.{Held}
use Rattle.algebra.specs.Values.{Keeps}
use Rattle.effects.proofs.Blocks.{block_from}
use Rattle.effects.proofs.rule_of_part.block.Given as goal

-- the value so far is that of the statements from this place on
pub record IsRest {S A : Type 0} (k : S → A → Type 0) (v : S → A → Held → Basic) (old new : S) (rest : A) (place count most : ℕ) (f : Held → Basic) : Type 0 where
  pub within : place ≤ count
  pub counted : place ≤ most
  pub known : k new rest
  pub value : (H : Held) → v new rest H ≡ f H
  pub keeps : Keeps k v old new

abbrev pub invariant-loop-place : goal.invariant-loop-place
invariant-loop-place g l = IsRest g.G.Algebra.IsKnown g.G.Algebra.value l.fn.algebra l.algebra l.rest l.place (length l.body) (length l.values)
    (block_from (g.C.Context.after l.context) (g.G.Algebra.value l.fn.algebra) l.body l.values l.place)

abbrev pub decreases-loop-place : goal.decreases-loop-place
decreases-loop-place g l = l.place
