-- The limit of 8 paths of each kind, and the first method that is past it.
use Rattle.std.specs.Prelude.{◌≡◌, ◌⊎◌, ◌||◌, ℕ, ◌+◌, ◌<◌, ◌≤◌, Bool, true, List, [], ◌∷◌, length, filter, nat_le, nat_lt}
use Rattle.std.specs.List.Sorted.{IsStrictlySortedBy}
use Rattle.paths.specs.Paths.{PathData, path_order}
use Rattle.algebra.specs.HeldPaths.{has_path}
use Rattle.core_program.specs.Core.{Program, Method}
use Rattle.rules.specs.Near.{MethodPaths, ArePathsOf, IsRel, IsLoc, rel_of, loc_of, most_locks}
use Rattle.rules.specs.Search.{row_at}

-- more than 8 different paths have the property
pub record AreMany (N : PathData → Type 0) : Type 0 where
  pub paths : List PathData
  pub ascends : IsStrictlySortedBy path_order paths
  pub each : (p : PathData) → has_path paths p ≡ true → N p
  pub many : most_locks < length paths

-- the method has more than 8 relevant paths, or more than 8 local ones
abbrev pub IsCrowded : Program → ℕ → Type 0
IsCrowded P m = AreMany (IsRel P m) ⊎ AreMany (IsLoc P m)

-- the method has at most 8 relevant paths and at most 8 local ones
pub record HasFew (P : Program) (m : ℕ) : Type 0 where
  pub paths : MethodPaths
  pub are : ArePathsOf P m paths
  pub rel : length paths.rel ≤ most_locks
  pub loc : length paths.loc ≤ most_locks

-- the method is the first in order that is past the limit
pub record IsFirstCrowded (P : Program) (m : ℕ) : Type 0 where
  pub crowded : IsCrowded P m
  pub before : (k : ℕ) → k < m → HasFew P k

-- whether the method is past the limit in these sets
abbrev pub is_crowded : List MethodPaths → ℕ → Bool
is_crowded sets m = nat_lt most_locks (length (rel_of sets m)) || nat_lt most_locks (length (loc_of sets m))

-- paths near a method with so many parameters, by their roots
abbrev pub parted : (params : ℕ) → List PathData → MethodPaths
parted params paths = record { rel = filter (λ p. nat_le p.root params) paths; loc = filter (λ p. nat_lt params p.root) paths }

-- the paths of methods that are numbered from here on
abbrev pub parted_from : List (List PathData) → ℕ → List Method → List MethodPaths
parted_from near m [] = []
parted_from near m (method ∷ methods) = parted (length method.params) (row_at near m) ∷ parted_from near (m + 1) methods
