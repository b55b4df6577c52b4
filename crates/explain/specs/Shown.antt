-- The assignment that trees show.
use Rattle.std.specs.Prelude.{List, Option, Some, None, slice_get}
use Rattle.algebra.specs.declared.basic.Basic.{Basic}
use Rattle.algebra.specs.declared.basic.Basic.TheVariants.{Const}
use Rattle.algebra.specs.HeldPaths.{Held}
use Rattle.conditions.specs.Conditions.{Cond, value_of}
use Rattle.rules.specs.Effect.{Assignment}

-- the basic of a tree that may be missing; const where it is
abbrev pub basic_of_tree : Option Cond → Held → Basic
basic_of_tree None H = Const
basic_of_tree (Some tree) H = value_of tree H

-- the assignment of the trees of all methods
abbrev pub shown : List Cond → Assignment
shown trees m H = basic_of_tree (slice_get trees m) H
