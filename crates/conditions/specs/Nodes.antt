-- Numbered nodes: the tree that each number stands for, and what holds of a list of them.
use Rattle.std.specs.Prelude.{◌≡◌, ◌<◌, ◌≤◌, ℕ, zero, suc, List, ◌∷◌, length, map, slice_get, Option, Some, None}
use Rattle.algebra.specs.declared.basic.Basic.{Basic}
use Rattle.algebra.specs.declared.basic.Basic.TheVariants.{Const, Mover, Atomic, Cmpd, Error}
use Rattle.conditions.specs.Conditions.{Cond, LeafC, TestC, IsCanonical}
use Rattle.conditions.specs.declared.rows.Item.{Item}
use Rattle.conditions.specs.declared.rows.Item.TheVariants.{Leaf, Test}
use Rattle.conditions.specs.declared.rows.Decision.{Decision}

-- a decision as an item
abbrev pub test_of : Decision → Item
test_of d = Test d.path d.held d.free

-- what numbers stand for, in their order
abbrev pub Items : Type 0
Items = List Item

-- the items in order of their numbers: the five basics first, then the decisions
abbrev pub items_of : List Decision → List Item
items_of ds = Leaf Const ∷ Leaf Mover ∷ Leaf Atomic ∷ Leaf Cmpd ∷ Leaf Error ∷ map test_of ds

-- the basic of an item that is one
abbrev pub basic_in : Option Item → Option Basic
basic_in None = None
basic_in (Some (Leaf b)) = Some b
basic_in (Some (Test p a b)) = None

-- the tree of an item, given the trees of numbers
abbrev pub by_parts : (ℕ → Cond) → Option Item → Cond
by_parts t None = LeafC Const
by_parts t (Some (Leaf b)) = LeafC b
by_parts t (Some (Test p a b)) = TestC p (t a) (t b)

-- the tree of a number, read at most so many items deep
abbrev pub tree_to : List Item → ℕ → ℕ → Cond
tree_to is zero n = LeafC Const
tree_to is (suc depth) n = by_parts (tree_to is depth) (slice_get is n)

-- the tree that a number stands for: parts have smaller numbers, so a number bounds its depth
abbrev pub tree_at : List Item → ℕ → Cond
tree_at is n = tree_to is (suc n) n

-- the tree that an item stands for
abbrev pub item_tree : List Item → Item → Cond
item_tree is i = by_parts (tree_at is) (Some i)

-- the parts of an item have smaller numbers
abbrev pub AreBefore : ℕ → Item → Type 0
AreBefore n (Leaf b) = Unit {0}
AreBefore n (Test p a b) = (a < n) × (b < n)

-- parts come before what they are parts of, each number stands for a canonical tree, and no two for the same one
pub record IsTable (is : List Item) : Type 0 where
  pub before : (n : ℕ) (i : Item) → slice_get is n ≡ Some i → AreBefore n i
  pub canonical : (n : ℕ) → n < length is → IsCanonical (tree_at is n)
  pub apart : (m n : ℕ) → m < length is → n < length is → tree_at is m ≡ tree_at is n → m ≡ n

-- numbers that were there stand for the trees that they stood for
pub record KeepsTrees (old new : List Item) : Type 0 where
  pub longer : length old ≤ length new
  pub same : (n : ℕ) → n < length old → tree_at new n ≡ tree_at old n
  pub was : IsTable old
  pub is : IsTable new

-- a number that is there stands for this tree
pub record StandsForTree (is : List Item) (n : ℕ) (t : Cond) : Type 0 where
  pub there : n < length is
  pub tree : tree_at is n ≡ t
