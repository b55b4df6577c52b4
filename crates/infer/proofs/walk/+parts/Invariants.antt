use Rattle.std.proofs.Common.{◌≡◌, ◌+◌, ◌*◌, ◌≤◌, ◌++◌, List, map}
use Rattle.algebra.specs.declared.basic.Basic.{Basic}
use Rattle.algebra.specs.HeldPaths.{Held}
use Rattle.algebra.specs.Values.{Keeps}
use Rattle.effects.specs.Bodies.{list_of, part_of}
use Rattle.effects.specs.Parts.{Part}
use Rattle.effects.specs.Rules.{AreAllKnown}
use Rattle.effects.specs.Effects.{effects_of}
use Rattle.effects.proofs.Sizes.{size_part, size_parts}
use Rattle.infer.specs.declared.walk.Walk.{Walk}
use Rattle.infer.specs.Bodies.{program_at, rel_at, assigned_at, parts_mentions, AreOfBody}
use Rattle.infer.proofs.walk.+parts.Given as goal

abbrev pub decreases-part_value : goal.decreases-part_value
decreases-part_value G l = 2 * size_part (part_of l.part) + 1

abbrev pub decreases-put_values : goal.decreases-put_values
decreases-put_values G l = 2 * size_parts (list_of l.parts) + 2

-- the values that were put, and then the effects of the parts that are left, are the effects of all
pub record ArePut {S A : Type 0} (k : S → A → Type 0) (v : S → A → Held → Basic) (old new : S) (walk : Walk) (parts rest : List Part) (before now : List A) : Type 0 where
  pub smaller : size_parts rest ≤ size_parts parts
  pub body : AreOfBody walk (parts_mentions rest)
  pub more : List A
  pub are : now ≡ before ++ more
  pub known : AreAllKnown k new more
  pub effects : map (v new) more ++ effects_of (program_at walk) (rel_at walk) (assigned_at walk) rest ≡ effects_of (program_at walk) (rel_at walk) (assigned_at walk) parts
  pub keeps : Keeps k v old new

abbrev pub invariant-put_values-parts : goal.invariant-put_values-parts
invariant-put_values-parts G l = ArePut G.G.Algebra.IsKnown G.G.Algebra.value l.fn.algebra l.algebra l.walk (list_of l.parts) (list_of l.rest) l.fn.values.items l.values.items

abbrev pub decreases-put_values-parts : goal.decreases-put_values-parts
decreases-put_values-parts G l = size_parts (list_of l.rest)
