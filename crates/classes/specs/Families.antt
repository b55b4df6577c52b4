-- What the code keeps of the classes of a program, and how it finds them by their names.
use Rattle.std.specs.Prelude.{◌≡◌, ◌⊎◌, ℕ, ◌+◌, List, [], ◌∷◌, ◌++◌, Option, Some, None, Vec, map, flat_map, length, slice_get, if◌then◌else◌}
use Rattle.std.specs.Option.{option_map}
use Rattle.std.specs.declared.alloc.Global.{Global}
use Rattle.syntax.specs.declared.tree.Name.{Name}
use Rattle.syntax.specs.Trees.{MemberTree, ClassTree, ProgramTree}
use Rattle.syntax.specs.Views.{class_of}
use Rattle.classes.specs.declared.family.Family.{Family}
use Rattle.classes.specs.declared.family.Field.{Field}
use Rattle.classes.specs.declared.family.FieldPlace as code
use Rattle.classes.specs.declared.overriding.LockReach.{LockReach}
use Rattle.classes.specs.declared.overriding.Heading as code_heading
use Rattle.classes.specs.Names.{has_text, distinct}
use Rattle.classes.specs.Members.{class_names}
use Rattle.classes.specs.Own.{all_own_names}
use Rattle.classes.specs.Lines.{above_in, ancestor_classes, members_at}
use Rattle.classes.specs.Lines as lines
use Rattle.classes.specs.Climbs.{AreClimbs}
use Rattle.classes.specs.Overriding.{FieldPlace, FoundField, LockMeaning, Heading, headings, headings_at}

-- the members of these classes
abbrev pub members_along : ProgramTree → List ℕ → List MemberTree
members_along tree order = flat_map (members_at tree) order

-- the numbers of the names that are new after names with these texts, where the first of these names has the number k
abbrev pub new_places : List (List ℕ) → ℕ → List Name → List ℕ
new_places seen k [] = []
new_places seen k (n ∷ ns) =
    if has_text seen n.text then new_places seen (k + 1) ns else k ∷ new_places (seen ++ n.text ∷ []) (k + 1) ns

-- for each text of names, in order of first appearance, the number of the first name with it
abbrev pub first_places : List Name → List ℕ
first_places names = new_places [] 0 names

-- for each class the number of the one that it extends
abbrev pub all_above : ProgramTree → List (Option ℕ)
all_above tree = map (λ c. above_in tree (Some c)) tree

-- the classes of a family
abbrev pub tree_of : Family → ProgramTree
tree_of f = map class_of f.classes.now

-- what a family keeps of its classes is theirs
pub record IsFamily (f : Family) : Type 0 where
  pub names : f.names.now ≡ distinct (class_names (tree_of f))
  pub own : f.own.now ≡ all_own_names (tree_of f)
  pub firsts : f.firsts.items ≡ first_places (class_names (tree_of f))
  pub above : f.above.items ≡ all_above (tree_of f)
  pub climbs : AreClimbs (tree_of f) (lines.above (tree_of f)) (length (tree_of f)) f.climbs.items

-- where a field stands, as plain data: the number of its class, and its place among the fields of that class
abbrev pub place_data : code.FieldPlace → FieldPlace
place_data p = record { class = p.class; place = p.place }

-- a field that was found in a class or above it, as plain data
abbrev pub field_data : Field → FoundField
field_data f = record { at = place_data f.at; is_final = f.is_final; ty = f.ty.now }

-- what a lock means, as plain data: the slot that it begins at, the places of its fields, and the class of the object that is reached
abbrev pub lock_meaning : LockReach → LockMeaning
lock_meaning r = record { slot = r.slot; fields = map place_data r.fields.items; class = r.class }

-- what all locks of `requires` mean, as plain data; none where some lock means nothing
abbrev pub locks_data : Option (Vec LockReach Global) → Option (List LockMeaning)
locks_data locks = option_map (λ rs. map lock_meaning rs.items) locks

-- a method's heading as plain data: its name, and what an overriding method has to share with it
abbrev pub heading_data : code_heading.Heading → Heading
heading_data h = record {
  name = h.name.now;
  signature = record { atomic = h.atomic; returns = h.returns.now; params = h.params.now; locks = locks_data h.locks };
}

-- the methods of each class, as they are kept
abbrev pub rows_data : List (Vec code_heading.Heading Global) → List (List Heading)
rows_data rows = map (λ row. map heading_data row.items) rows

-- the headings of a class that may be missing, which then has none
abbrev pub row_in : Option (List Heading) → List Heading
row_in None = []
row_in (Some row) = row

-- the methods of a class
abbrev pub class_headings : List (List Heading) → ℕ → List Heading
class_headings rows k = row_in (slice_get rows k)

-- the methods of these classes, the first of which has the number k
abbrev pub all_headings : ProgramTree → ℕ → List ClassTree → List (List Heading)
all_headings tree k [] = []
all_headings tree k (c ∷ cs) = headings tree k c.members ∷ all_headings tree (k + 1) cs

-- the methods of each class are known, or no class inherits from any
abbrev pub AreHeadings : ProgramTree → (ℕ → List Heading) → Type 0
AreHeadings tree methods = (methods ≡ headings_at tree) ⊎ ((k : ℕ) → ancestor_classes tree k ≡ [])
