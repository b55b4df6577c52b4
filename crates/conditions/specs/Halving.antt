-- Two trees by the smaller of the paths at their roots: what is left of each where that path is held, and where it isn't.
use Rattle.std.specs.Prelude.{◌≡◌, ◌<◌, ◌+◌, ℕ, List, length, Option, Some, None}
use Rattle.paths.specs.Paths.{PathData, path_order}
use Rattle.conditions.specs.Conditions.{Cond, LeafC, TestC}
use Rattle.conditions.specs.Operations.{by_order}
use Rattle.conditions.specs.declared.rows.Item.{Item}
use Rattle.conditions.specs.declared.halves.Split.{Split}
use Rattle.conditions.specs.declared.halves.Split.TheVariants.{Leaves, Tests}
use Rattle.conditions.specs.Nodes.{tree_at}

-- a path, and what is left of two trees where it is held and where it isn't
pub record Halves : Type 0 where
  pub path : PathData
  pub first_held : Cond
  pub first_free : Cond
  pub second_held : Cond
  pub second_free : Cond

-- such halves, of the first tree where the path is held and where it isn't, and of the second
abbrev pub halves : PathData → Cond → Cond → Cond → Cond → Option Halves
halves p a b c d = Some (record { path = p; first_held = a; first_free = b; second_held = c; second_free = d })

-- the halves of two trees, where one of them has a test; a tree whose root is another path stays whole
abbrev pub halves_of : Cond → Cond → Option Halves
halves_of (LeafC x) (LeafC y) = None
halves_of (LeafC x) (TestC q c d) = halves q (LeafC x) (LeafC x) c d
halves_of (TestC p a b) (LeafC y) = halves p a b (LeafC y) (LeafC y)
halves_of (TestC p a b) (TestC q c d) = by_order (path_order p q)
    (halves p a b (TestC q c d) (TestC q c d))
    (halves p a b c d)
    (halves q (TestC p a b) (TestC p a b) c d)

-- numbers of the halves of what m and n stand for
pub record AreHalves (is : List Item) (m n : ℕ) (p : PathData) (a b c d : ℕ) : Type 0 where
  pub halves : halves_of (tree_at is m) (tree_at is n) ≡ halves p (tree_at is a) (tree_at is b) (tree_at is c) (tree_at is d)
  pub held_less : a + c < m + n
  pub free_less : b + d < m + n
  pub a_there : a < length is
  pub b_there : b < length is
  pub c_there : c < length is
  pub d_there : d < length is

-- the basics that two numbers stand for, or their halves where one of them stands for a test
abbrev pub IsSplit : List Item → ℕ → ℕ → Split → Type 0
IsSplit is m n (Leaves x y) = (tree_at is m ≡ LeafC x) × (tree_at is n ≡ LeafC y)
IsSplit is m n (Tests p a b c d) = AreHalves is m n p a b c d
