-- The sets that hold each path which a tree tests along its held branches.
use Rattle.std.specs.Prelude.{◌≡◌, true}
use Rattle.algebra.specs.declared.basic.Basic.{Basic}
use Rattle.algebra.specs.declared.basic.Basic.TheVariants.{Error}
use Rattle.algebra.specs.HeldPaths.{Held}
use Rattle.conditions.specs.Conditions.{Cond, LeafC, TestC}

-- each path that is tested along the held branches is in the set
abbrev pub HoldsAll : Cond → Held → Type 0
HoldsAll (LeafC b) H = Unit {0}
HoldsAll (TestC p a b) H = (H p ≡ true) × HoldsAll a H

-- the held branches end at this basic, and each other branch is an error
abbrev pub EndsAt : Basic → Cond → Type 0
EndsAt last (LeafC b) = b ≡ last
EndsAt last (TestC p a b) = EndsAt last a × (b ≡ LeafC Error)
