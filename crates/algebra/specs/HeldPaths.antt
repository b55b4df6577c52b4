-- Sets of held paths, as tests.
use Rattle.std.specs.Prelude.{ℕ, List, Bool, false, ◌&&◌, ◌||◌, ◌==◌, Option, Some, None, if◌then◌else◌}
use Rattle.std.specs.List.{list_any}
use Rattle.paths.specs.Paths.{PathData, path_eq}

-- a set of held paths: which paths are in it
abbrev pub Held : Type 0
Held = PathData → Bool

-- the set of the paths of a list
abbrev pub has_path : List PathData → Held
has_path ps q = list_any (λ p. path_eq p q) ps

-- the set with one more path
abbrev pub with_path : PathData → Held → Held
with_path p H q = path_eq p q || H q

-- the set without the paths rooted at a slot
abbrev pub without_root : ℕ → Held → Held
without_root x H q = if q.root == x then false else H q

-- whether there is a path, and it is in the set
abbrev pub holds_at : Option PathData → Held → Bool
holds_at None H = false
holds_at (Some p) H = H p

-- whether a renaming names the path
abbrev pub is_named : List (PathData × Option PathData) → PathData → Bool
is_named pairs q = list_any (λ pair. path_eq pair.0 q) pairs

-- whether the partner of the path is there and held, in some pair of the renaming that names the path
abbrev pub partner_held : List (PathData × Option PathData) → Held → PathData → Bool
partner_held pairs H q = list_any (λ pair. path_eq pair.0 q && holds_at pair.1 H) pairs

-- the set as a renaming tells it: a named path is held where its partner is; other paths stay as they are
abbrev pub renamed : List (PathData × Option PathData) → Held → Held
renamed pairs H q = if is_named pairs q then partner_held pairs H q else H q
