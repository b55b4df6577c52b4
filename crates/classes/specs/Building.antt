-- The parts of a table while classes are added to it.
use Rattle.std.specs.Prelude.{ℕ, Bool, List, [], ◌∷◌, ◌++◌, Option, None, map, length, position, bytes_eq, unwrap_or, option_and_then, slice_get}
use Rattle.std.specs.List.{list_any}
use Rattle.syntax.specs.Trees.{ClassTree, ProgramTree}
use Rattle.classes.specs.declared.build.TableParts.{TableParts}
use Rattle.classes.specs.Names.{distinct}
use Rattle.classes.specs.Members.{field_names, method_names}
use Rattle.classes.specs.Lines.{ancestors, says_runnable}
use Rattle.classes.specs.Seen.{FieldData}
use Rattle.classes.specs.Table.{ClassData, MethodData, fields_of, methods_of}
use Rattle.classes.specs.Views.{class_data, method_data}

-- what a table has so far: the entries of its classes, fields and methods, in the order of their numbers
pub record PartsData : Type 0 where
  pub classes : List ClassData
  pub fields : List FieldData
  pub methods : List MethodData

-- the parts of a table in memory as plain data
abbrev pub parts_data : TableParts → PartsData
parts_data p = record {
  classes = map class_data p.classes.items;
  fields = p.fields.items;
  methods = map method_data p.methods.items;
}

-- the class that a class extends, where the classes have these names
abbrev pub above_named : List (List ℕ) → ClassTree → Option ℕ
above_named names c = option_and_then (λ n. position (bytes_eq n.text) names) c.above

-- the class above one, where this is what stands above each
abbrev pub above_at : List (Option ℕ) → ℕ → Option ℕ
above_at aboves k = unwrap_or (slice_get aboves k) None

-- whether a class of the tree or an ancestor of it says `implements Runnable`, where this is what stands above each
abbrev pub counts_among : ProgramTree → List (Option ℕ) → ℕ → Bool
counts_among tree aboves k = list_any (says_runnable tree) (k ∷ ancestors (above_at aboves) (length tree) (above_at aboves k))

-- a class that extends this one and counts or not, where f fields and m methods stand before
abbrev pub class_entry_of : Option ℕ → Bool → ℕ → ℕ → ClassTree → ClassData
class_entry_of above runnable f m c = record {
  above = above;
  runnable = runnable;
  first_field = f;
  field_names = distinct (field_names c.members);
  first_method = m;
  method_names = distinct (method_names c.members);
}

-- a class of the tree with the number k, where f fields and m methods stand before, and this is what stands above each
abbrev pub class_at : ProgramTree → List (Option ℕ) → ℕ → ℕ → ℕ → ClassTree → ClassData
class_at tree aboves k f m c = class_entry_of (above_at aboves k) (counts_among tree aboves k) f m c

-- the parts with one class of the tree more, where the classes have these names
abbrev pub with_class : ProgramTree → List (Option ℕ) → List (List ℕ) → ClassTree → PartsData → PartsData
with_class tree aboves names c p = record {
  classes = p.classes ++ class_at tree aboves (length p.classes) (length p.fields) (length p.methods) c ∷ [];
  fields = p.fields ++ fields_of names (length p.classes) c.members;
  methods = p.methods ++ methods_of names (length p.classes) c.members;
}

-- the parts with these classes of the tree
abbrev pub with_classes : ProgramTree → List (Option ℕ) → List (List ℕ) → PartsData → ProgramTree → PartsData
with_classes tree aboves names p [] = p
with_classes tree aboves names p (c ∷ cs) = with_classes tree aboves names (with_class tree aboves names c p) cs

-- a table before its first class
abbrev pub no_parts : PartsData
no_parts = record { classes = []; fields = []; methods = [] }

-- the parts of a tree whose classes have these names
abbrev pub parts_from : List (List ℕ) → ProgramTree → PartsData
parts_from names tree = with_classes tree (map (above_named names) tree) names no_parts tree
