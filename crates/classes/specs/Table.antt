-- The class table of a tree: its classes, fields and methods, numbered from 0 in source order over the whole program.
use Rattle.std.specs.Prelude.{ℕ, ◌+◌, ◌-◌, ◌==◌, if◌then◌else◌, Bool, List, [], ◌∷◌, ◌++◌, Option, Some, None, map, length, position, bytes_eq, unwrap_or, option_map, option_and_then, slice_get, codes}
use Rattle.std.specs.Option.{option_or}
use Rattle.base.specs.Ancestors.{reaches}
use Rattle.core_program.specs.declared.types.CoreType.{CoreType}
use Rattle.core_program.specs.declared.types.CoreType.TheVariants as T
use Rattle.syntax.specs.declared.tree.Name.{Name}
use Rattle.syntax.specs.declared.tree.Param.{Param}
use Rattle.syntax.specs.declared.tree.TypeName.{TypeName}
use Rattle.syntax.specs.declared.tree.TypeName.TheVariants as Y
use Rattle.syntax.specs.Trees.{MemberTree, FieldM, CtorM, MethodM, ProgramTree}
use Rattle.classes.specs.Names.{texts_of}
use Rattle.classes.specs.Members.{class_names, field_names, method_names}
use Rattle.classes.specs.Lines.{ancestors, above, says_so}
use Rattle.classes.specs.Seen.{FieldData, ParamData}

-- a class: the class that it extends, whether it counts as `implements Runnable`, and of its own fields and methods the number of the first
-- and the names in order
pub record ClassData : Type 0 where
  pub above : Option ℕ
  pub runnable : Bool
  pub first_field : ℕ
  pub field_names : List (List ℕ)
  pub first_method : ℕ
  pub method_names : List (List ℕ)

-- a method, with the number of its class; no result is `void`
pub record MethodData : Type 0 where
  pub class : ℕ
  pub name : List ℕ
  pub params : List ParamData
  pub returns : Option CoreType

-- a class table: the names of its classes, and what belongs to each class, field and method
pub record TableData : Type 0 where
  pub names : List (List ℕ)
  pub classes : List ClassData
  pub fields : List FieldData
  pub methods : List MethodData

-- ---- the table of a tree

-- a type in numbers, where the classes have these names; 0 for a name of no class, which a tree without faults hasn't
abbrev pub type_of : List (List ℕ) → TypeName → CoreType
type_of classes Y.Int = T.Int
type_of classes Y.Boolean = T.Boolean
type_of classes (Y.Class n) = T.Class (unwrap_or (position (bytes_eq n.text) classes) 0)

-- a parameter of a method, its type by the numbers of these classes
abbrev pub param_of : List (List ℕ) → Param → ParamData
param_of classes p = record { name = p.name.text; is_final = p.is_final; ty = type_of classes p.ty }

-- the fields of the class with number k
abbrev pub fields_of : List (List ℕ) → ℕ → List MemberTree → List FieldData
fields_of classes k [] = []
fields_of classes k (FieldM f ∷ ms) =
    record { class = k; name = f.name.text; is_final = f.is_final; ty = type_of classes f.ty } ∷ fields_of classes k ms
fields_of classes k (CtorM n params sets ∷ ms) = fields_of classes k ms
fields_of classes k (MethodM m ∷ ms) = fields_of classes k ms

-- the methods of the class with number k
abbrev pub methods_of : List (List ℕ) → ℕ → List MemberTree → List MethodData
methods_of classes k [] = []
methods_of classes k (FieldM f ∷ ms) = methods_of classes k ms
methods_of classes k (CtorM n params sets ∷ ms) = methods_of classes k ms
methods_of classes k (MethodM m ∷ ms) =
    record { class = k; name = m.name.text; params = map (param_of classes) m.params; returns = option_map (type_of classes) m.returns }
    ∷ methods_of classes k ms

-- the fields of all classes, where the first class has the number k
abbrev pub all_fields : List (List ℕ) → ℕ → ProgramTree → List FieldData
all_fields classes k [] = []
all_fields classes k (c ∷ cs) = fields_of classes k c.members ++ all_fields classes (k + 1) cs

-- the methods of all classes, where the first class has the number k
abbrev pub all_methods : List (List ℕ) → ℕ → ProgramTree → List MethodData
all_methods classes k [] = []
all_methods classes k (c ∷ cs) = methods_of classes k c.members ++ all_methods classes (k + 1) cs

-- these classes of the tree, the first of which has the number k, where f fields and m methods stand before; texts gives the texts of names
abbrev pub classes_from : ProgramTree → (List Name → List (List ℕ)) → ℕ → ℕ → ℕ → ProgramTree → List ClassData
classes_from tree texts k f m [] = []
classes_from tree texts k f m (c ∷ cs) =
    record {
      above = above tree k;
      runnable = says_so tree k;
      first_field = f;
      field_names = texts (field_names c.members);
      first_method = m;
      method_names = texts (method_names c.members);
    }
    ∷ classes_from tree texts (k + 1) (f + length (field_names c.members)) (m + length (method_names c.members)) cs

-- the table of a tree without faults
abbrev pub table_of : ProgramTree → TableData
table_of tree =
    let names = texts_of (class_names tree) in
    record {
      names = names;
      classes = classes_from tree texts_of 0 0 0 tree;
      fields = all_fields names 0 tree;
      methods = all_methods names 0 tree;
    }

-- ---- what a table tells

-- the number of the class with this name
abbrev pub class_number : TableData → List ℕ → Option ℕ
class_number t name = position (bytes_eq name) t.names

-- the class that the class with number k extends
abbrev pub above_in_table : TableData → ℕ → Option ℕ
above_in_table t k = option_and_then (λ c. c.above) (slice_get t.classes k)

-- a class and its ancestors, the nearest first
abbrev pub class_and_ancestors : TableData → ℕ → List ℕ
class_and_ancestors t k = k ∷ ancestors (above_in_table t) (length t.classes) (above_in_table t k)

-- whether the second class is the first or an ancestor of it
abbrev pub is_of_kind : TableData → ℕ → ℕ → Bool
is_of_kind t c d = reaches (above_in_table t) (length t.classes) (Some c) d

-- what is found first along a list
abbrev pub first_found : {A : Type 0} → (ℕ → Option A) → List ℕ → Option A
first_found found [] = None
first_found found (k ∷ ks) = option_or (found k) (first_found found ks)

-- the number of the class's own field with this name
abbrev pub field_in : List ℕ → ClassData → Option ℕ
field_in name c = option_map (λ i. c.first_field + i) (position (bytes_eq name) c.field_names)

-- the number of the own field with this name of the class with number k
abbrev pub own_field : TableData → List ℕ → ℕ → Option ℕ
own_field t name k = option_and_then (field_in name) (slice_get t.classes k)

-- the number of the field with this name in the class with number k: its own, else that of its nearest ancestor that has one
abbrev pub field_number : TableData → ℕ → List ℕ → Option ℕ
field_number t k name = first_found (own_field t name) (class_and_ancestors t k)

-- the number of the class's own method with this name
abbrev pub number_of_own_method : List ℕ → ClassData → Option ℕ
number_of_own_method name c = option_map (λ i. c.first_method + i) (position (bytes_eq name) c.method_names)

-- the number of the own method with this name of the class with number k
abbrev pub own_method : TableData → List ℕ → ℕ → Option ℕ
own_method t name k = option_and_then (number_of_own_method name) (slice_get t.classes k)

-- the number of the method with this name in the class with number k: its own, else that of its nearest ancestor that has one
abbrev pub method_number : TableData → ℕ → List ℕ → Option ℕ
method_number t k name = first_found (own_method t name) (class_and_ancestors t k)

-- the names of a method's class and of the method
abbrev pub method_title : TableData → ℕ → Option (List ℕ × List ℕ)
method_title t m = option_and_then (λ d. option_map (λ c. (c, d.name)) (slice_get t.names d.class)) (slice_get t.methods m)

-- the name of a slot: `this`, then the parameters
abbrev pub slot_of : ℕ → MethodData → Option (List ℕ)
slot_of slot d = if slot == 0 then Some (codes "this") else option_map (λ p. p.name) (slice_get d.params (slot - 1))

-- the name of a slot of method m: `this` for the first, else that of a parameter
abbrev pub slot_title : TableData → ℕ → ℕ → Option (List ℕ)
slot_title t m slot = option_and_then (slot_of slot) (slice_get t.methods m)
