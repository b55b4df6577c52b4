-- The entries that the class table has of the members of classes.
use Rattle.std.specs.Prelude.{◌≡◌, ℕ, ◌+◌, List, [], ◌∷◌, Some, map, option_map, slice_get}
use Rattle.syntax.specs.Trees.{FieldTree, MethodTree, MemberTree, FieldM, CtorM, MethodM, ProgramTree}
use Rattle.classes.specs.Seen.{FieldData}
use Rattle.classes.specs.Table.{TableData, MethodData, type_of, param_of}
use Rattle.typing.specs.Gathered.{index_after}

module _ (t : TableData) where
  -- the entry of a field of the class with number k
  abbrev pub field_entry : ℕ → FieldTree → FieldData
  field_entry k f = record { class = k; name = f.name.text; is_final = f.is_final; ty = type_of t.names f.ty }

  -- the entry of a method of the class with number k
  abbrev pub method_entry : ℕ → MethodTree → MethodData
  method_entry k m = record {
    class = k;
    name = m.name.text;
    params = map (param_of t.names) m.params;
    returns = option_map (type_of t.names) m.returns;
  }

  -- a member of the class with number k, if it is a method, has this entry
  abbrev pub IsEntryOf : ℕ → MemberTree → MethodData → Type 0
  IsEntryOf k (FieldM f) e = Unit {0}
  IsEntryOf k (CtorM n params sets) e = Unit {0}
  IsEntryOf k (MethodM m) e = e ≡ method_entry k m

  -- a member of the class with number k has the field with number i, or the method with number j, of the table
  abbrev pub HasEntry : ℕ → MemberTree → ℕ → ℕ → Type 0
  HasEntry k (FieldM f) i j = slice_get t.fields i ≡ Some (field_entry k f)
  HasEntry k (CtorM n params sets) i j = Unit {0}
  HasEntry k (MethodM m) i j = slice_get t.methods j ≡ Some (method_entry k m)

-- the number of the method after a member, where this is that of the next one
abbrev pub method_after : MemberTree → ℕ → ℕ
method_after (FieldM f) j = j
method_after (CtorM n params sets) j = j
method_after (MethodM m) j = j + 1

-- the number of the field after these members, where this is that of the next one
abbrev pub fields_after : List MemberTree → ℕ → ℕ
fields_after [] i = i
fields_after (m ∷ ms) i = fields_after ms (index_after m i)

-- the number of the method after these members
abbrev pub methods_after : List MemberTree → ℕ → ℕ
methods_after [] j = j
methods_after (m ∷ ms) j = methods_after ms (method_after m j)

module _ (t : TableData) where
  -- these members of the class with number k have the fields from number i on, and the methods from number j on
  abbrev pub HaveEntries : ℕ → List MemberTree → ℕ → ℕ → Type 0
  HaveEntries k [] i j = Unit {0}
  HaveEntries k (m ∷ ms) i j = HasEntry t k m i j × HaveEntries k ms (index_after m i) (method_after m j)

  -- the members of these classes, the first of which has the number k, do
  abbrev pub AllHaveEntries : ℕ → ProgramTree → ℕ → ℕ → Type 0
  AllHaveEntries k [] i j = Unit {0}
  AllHaveEntries k (c ∷ cs) i j =
      HaveEntries k c.members i j × AllHaveEntries (k + 1) cs (fields_after c.members i) (methods_after c.members j)
