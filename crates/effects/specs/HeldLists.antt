-- Lists of held paths under other names.
use Rattle.std.specs.Prelude.{ℕ, Bool, false, not, ◌==◌, List, map, length, drop, filter, Option, Some, None, if◌then◌else◌}
use Rattle.std.specs.List.{filter_map}
use Rattle.paths.specs.Paths.{PathData, path_eq, extended}
use Rattle.algebra.specs.HeldPaths.{has_path, holds_at}

-- the paths of a renaming whose partners are held
abbrev pub held_pairs : List (PathData × Option PathData) → List PathData → List PathData
held_pairs pairs held = map (λ pair. pair.0) (filter (λ pair. holds_at pair.1 (has_path held)) pairs)

-- whether there is a path, and it is this one
abbrev pub is_path : Option PathData → PathData → Bool
is_path None p = false
is_path (Some q) p = path_eq q p

-- what a path is called from a local, where the local's value has the path `start`: the local and the fields after those of `start`, where the path goes on from it
abbrev pub name_from_local : ℕ → PathData → PathData → Option PathData
name_from_local x start p = if is_path (extended start (drop (length start.fields) p.fields)) p then Some (record { root = x; fields = drop (length start.fields) p.fields }) else None

-- the names of some paths from a local
abbrev pub local_names : ℕ → PathData → List PathData → List PathData
local_names x start = filter_map (name_from_local x start)

-- the paths that aren't rooted at a slot
abbrev pub other_roots : ℕ → List PathData → List PathData
other_roots x = filter (λ p. not (p.root == x))
