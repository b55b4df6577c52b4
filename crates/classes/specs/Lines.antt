-- Which class stands above which, and what a class inherits. Classes are known by their numbers, from 0 in source order.
use Rattle.std.specs.Prelude.{ℕ, zero, suc, Bool, false, List, [], ◌∷◌, ◌++◌, Option, Some, None, flat_map, length, reverse, position, slice_get, bytes_eq, if◌then◌else◌}
use Rattle.std.specs.List.{list_any}
use Rattle.std.specs.Option.{option_and_then}
use Rattle.base.specs.Ancestors.{is_circular}
use Rattle.syntax.specs.Trees.{MemberTree, ClassTree, ProgramTree}
use Rattle.classes.specs.Names.{texts_of}
use Rattle.classes.specs.Members.{class_names}

-- what is there above, and above that, and so on, at most so many: the nearest first
abbrev pub ancestors : (ℕ → Option ℕ) → ℕ → Option ℕ → List ℕ
ancestors above n None = []
ancestors above zero (Some c) = []
ancestors above (suc n) (Some c) = c ∷ ancestors above n (above c)

-- the number of the first class with this name
abbrev pub class_named : ProgramTree → List ℕ → Option ℕ
class_named tree text = position (bytes_eq text) (texts_of (class_names tree))

-- the number of the class that a class extends
abbrev pub above_in : ProgramTree → Option ClassTree → Option ℕ
above_in tree None = None
above_in tree (Some c) = option_and_then (λ n. class_named tree n.text) c.above

-- the same of the class with this number
abbrev pub above : ProgramTree → ℕ → Option ℕ
above tree k = above_in tree (slice_get tree k)

-- the ancestors of a class, the nearest first
abbrev pub ancestors_of : ProgramTree → ℕ → List ℕ
ancestors_of tree k = ancestors (above tree) (length tree) (above tree k)

-- whether a class is on or below a circle: it, or an ancestor of it, is its own ancestor
abbrev pub is_on_circle : ProgramTree → ℕ → Bool
is_on_circle tree k = is_circular (above tree) (length tree) k

-- the classes that a class inherits from, the nearest first; on or below a circle it inherits from none
abbrev pub ancestor_classes : ProgramTree → ℕ → List ℕ
ancestor_classes tree k = if is_on_circle tree k then [] else ancestors_of tree k

-- the members of a class that may be missing, which then has none
abbrev pub members_in : Option ClassTree → List MemberTree
members_in None = []
members_in (Some c) = c.members

-- the members that a class itself declares
abbrev pub members_at : ProgramTree → ℕ → List MemberTree
members_at tree k = members_in (slice_get tree k)

-- the members of the classes that a class inherits from, the furthest ancestor's first
abbrev pub inherited : ProgramTree → ℕ → List MemberTree
inherited tree k = flat_map (members_at tree) (reverse (ancestor_classes tree k))

-- the members that a class has: the inherited ones and then its own
abbrev pub all_members : ProgramTree → ℕ → List MemberTree
all_members tree k = inherited tree k ++ members_at tree k

-- whether a class that may be missing is there and says `implements Runnable`
abbrev pub says_in : Option ClassTree → Bool
says_in None = false
says_in (Some c) = c.runnable

-- whether a class itself says `implements Runnable`
abbrev pub says_runnable : ProgramTree → ℕ → Bool
says_runnable tree k = says_in (slice_get tree k)

-- whether a class counts as one that says so: it or an ancestor of it does
abbrev pub says_so : ProgramTree → ℕ → Bool
says_so tree k = list_any (says_runnable tree) (k ∷ ancestors_of tree k)
