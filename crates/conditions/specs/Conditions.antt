-- Conditional atomicities as plain trees: their values, and which of them are canonical.
use Rattle.std.specs.Prelude.{◌≡◌, ◌≢◌, ◌==◌, ◌&&◌, Bool, false, if◌then◌else◌}
use Rattle.std.specs.declared.cmp.Ordering.TheVariants.{Less}
use Rattle.paths.specs.Paths.{PathData, path_order, path_eq}
use Rattle.algebra.specs.declared.basic.Basic.{Basic}
use Rattle.algebra.specs.Basics.{rank_of}
use Rattle.algebra.specs.HeldPaths.{Held}
use Rattle.conditions.specs.declared.tree.Tree.{Tree}
use Rattle.conditions.specs.declared.tree.Tree.TheVariants.{Leaf, Test'}

-- a basic, or one atomicity where a path is held and another where it isn't
pub data Cond : Type 0 where
  LeafC : Basic → Cond
  TestC : PathData → Cond → Cond → Cond

-- a tree without its addresses
abbrev pub cond_of : Tree → Cond
cond_of (Leaf b) = LeafC b
cond_of (Test' p x a y b) = TestC p (cond_of a) (cond_of b)

-- the basic at a set of held paths
abbrev pub value_of : Cond → Held → Basic
value_of (LeafC b) H = b
value_of (TestC p a b) H = if H p then value_of a H else value_of b H

-- each test of the tree comes after the path
abbrev pub IsAfter : PathData → Cond → Type 0
IsAfter p (LeafC b) = Unit {0}
IsAfter p (TestC q a b) = (path_order p q ≡ Less) × IsAfter p a × IsAfter p b

-- a test whose branches differ and test only later paths; its last two arguments say that the branches are canonical
pub record IsTest (p : PathData) (a b : Cond) (AIs BIs : Type 0) : Type 0 where
  pub after_a : IsAfter p a
  pub after_b : IsAfter p b
  pub differ : a ≢ b
  pub a_is : AIs
  pub b_is : BIs

-- tests strictly ascend from the root to a leaf, and no test has equal branches
abbrev pub IsCanonical : Cond → Type 0
IsCanonical (LeafC b) = Unit {0}
IsCanonical (TestC p a b) = IsTest p a b (IsCanonical a) (IsCanonical b)

-- whether two trees are equal
abbrev pub cond_eq : Cond → Cond → Bool
cond_eq (LeafC b) (LeafC c) = rank_of b == rank_of c
cond_eq (LeafC b) (TestC q c d) = false
cond_eq (TestC p a b) (LeafC c) = false
cond_eq (TestC p a b) (TestC q c d) = path_eq p q && (cond_eq a c && cond_eq b d)
