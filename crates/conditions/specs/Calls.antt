-- The calls that are made on each leaf, or on the leaves of two trees.
use Rattle.algebra.specs.declared.basic.Basic.{Basic}
use Rattle.algebra.specs.Basics.{seq_of, join_of, star_of, lift_of}
use Rattle.conditions.specs.declared.tree_operations.Single.{Single}
use Rattle.conditions.specs.declared.tree_operations.Single.TheVariants.{Star, Lift}
use Rattle.conditions.specs.declared.tree_operations.Pair.{Pair}
use Rattle.conditions.specs.declared.tree_operations.Pair.TheVariants.{Seq, Join}

-- what a call of one basic gives
abbrev pub single_of : Single → Basic → Basic
single_of Star = star_of
single_of Lift = lift_of

-- what a call of two basics gives
abbrev pub pair_of : Pair → Basic → Basic → Basic
pair_of Seq = seq_of
pair_of Join = join_of
