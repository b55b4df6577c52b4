-- What paths are called elsewhere: at a call, before a final local is declared, and in a method that is overridden.
use Rattle.std.specs.Prelude.{ℕ, Bool, true, List, [], ◌∷◌, ◌++◌, ◌==◌, map, Option, Some, None, if◌then◌else◌}
use Rattle.paths.specs.Paths.{PathData, path_eq, extended_some}
use Rattle.algebra.specs.HeldPaths.{Held, has_path, holds_at, renamed}
use Rattle.core_program.specs.Core.{Program, Stmt, LocalS}
use Rattle.core_program.specs.Locks.{path_of}
use Rattle.rules.specs.Near.{MethodPaths, rel_of, loc_of}

-- what a renaming calls a path: the partner in the first pair that names it; none where none does
abbrev pub name_in : List (PathData × Option PathData) → PathData → Option PathData
name_in [] q = None
name_in (pair ∷ pairs) q = if path_eq pair.0 q then pair.1 else name_in pairs q

-- the partners of a renaming that are held, in order
abbrev pub held_partners : List (PathData × Option PathData) → Held → List Bool
held_partners pairs H = map (λ pair. holds_at pair.1 H) pairs

-- a path's own name where it is one of the known ones; none else
abbrev pub known_name : (known : List PathData) → PathData → Option PathData
known_name known q = if has_path known q then Some q else None

-- each path rooted at a slot, with what it is from the path of the slot's value
abbrev pub names_from_slot : ℕ → Option PathData → List PathData → List (PathData × Option PathData)
names_from_slot x value [] = []
names_from_slot x value (q ∷ qs) =
    if q.root == x then (q, extended_some value q.fields) ∷ names_from_slot x value qs else names_from_slot x value qs

-- all paths near a method
abbrev pub near_of : List MethodPaths → ℕ → List PathData
near_of sets m = rel_of sets m ++ loc_of sets m

-- the set after a statement, as a renaming of paths near the method tells it
abbrev pub left_by : Program → List PathData → Stmt → Held → Held
left_by P near (LocalS x true ty e) H = renamed (names_from_slot x (path_of P e) near) H
left_by P near _ H = H
