-- Trees, each once.
use Rattle.std.specs.Prelude.{◌≡◌, ◌⊎◌, ℕ, ◌^◌, ◌<◌, List, [], ◌∷◌, ◌++◌, map, length, Some, slice_get}
use Rattle.conditions.specs.Conditions.{Cond, cond_of}
use Rattle.conditions.specs.Nodes.{Items}
use Rattle.conditions.specs.Shown.{AreAmongFirst, trees_at}
use Rattle.books.specs.Books.{AreTrees, HasPaths, tests_high}
use Rattle.derive.specs.declared.pool.Pool.{Pool}
use Rattle.derive.specs.Derived.{AreDistinct}

-- the trees of a pool
abbrev pub pool_table : Pool → List Cond
pool_table pool = map cond_of pool.trees.items

-- the trees can stand in a table, and each stands once
pub record ArePooled (table : List Cond) : Type 0 where
  pub few : length table < 2 ^ 32
  pub trees : AreTrees table
  pub distinct : AreDistinct table

-- the trees are those of the nodes
pub record IsPool (is : Items) (pool : Pool) : Type 0 where
  pub pooled : ArePooled (pool_table pool)
  pub there : AreAmongFirst (length is) pool.nodes.keys
  pub nodes : trees_at is pool.nodes.keys ≡ pool_table pool

-- the number of a tree in a table, to which it was added where it wasn't there
abbrev pub IsNumberIn : List Cond → Cond → ℕ → List Cond → Type 0
IsNumberIn old t n new = ((slice_get old n ≡ Some t) × (new ≡ old)) ⊎ ((n ≡ length old) × (new ≡ old ++ (t ∷ [])))

-- a tree with paths that can be written, and with at most so many tests within each other
pub record IsAtMost (room : ℕ) (t : Cond) : Type 0 where
  pub paths : HasPaths t
  pub high : tests_high t < room
