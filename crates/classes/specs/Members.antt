-- The members of a class, by kind, in the order in which they are written.
use Rattle.std.specs.Prelude.{ℕ, Bool, true, false, ◌&&◌, List, [], ◌∷◌, is_none, map, bytes_eq, if◌then◌else◌}
use Rattle.syntax.specs.declared.tree.Name.{Name}
use Rattle.syntax.specs.declared.tree.Param.{Param}
use Rattle.syntax.specs.declared.tree.TypeName.{TypeName}
use Rattle.syntax.specs.declared.tree.TypeName.TheVariants as Y
use Rattle.syntax.specs.Trees.{MethodTree, MemberTree, FieldM, CtorM, MethodM, ProgramTree}

-- whether a list has nothing in it
abbrev pub has_none : {A : Type 0} → List A → Bool
has_none [] = true
has_none (x ∷ xs) = false

-- the names of the classes
abbrev pub class_names : ProgramTree → List Name
class_names tree = map (λ c. c.name) tree

-- the names of the fields
abbrev pub field_names : List MemberTree → List Name
field_names [] = []
field_names (FieldM f ∷ ms) = f.name ∷ field_names ms
field_names (CtorM n params sets ∷ ms) = field_names ms
field_names (MethodM m ∷ ms) = field_names ms

-- the names of the methods
abbrev pub method_names : List MemberTree → List Name
method_names [] = []
method_names (FieldM f ∷ ms) = method_names ms
method_names (CtorM n params sets ∷ ms) = method_names ms
method_names (MethodM m ∷ ms) = m.name ∷ method_names ms

-- the names of parameters
abbrev pub param_names : List Param → List Name
param_names params = map (λ p. p.name) params

-- the types and names of the final fields
abbrev pub finals_of : List MemberTree → List (TypeName × Name)
finals_of [] = []
finals_of (FieldM f ∷ ms) = if f.is_final then (f.ty, f.name) ∷ finals_of ms else finals_of ms
finals_of (CtorM n params sets ∷ ms) = finals_of ms
finals_of (MethodM m ∷ ms) = finals_of ms

-- whether a member is a constructor
abbrev pub is_constructor : MemberTree → Bool
is_constructor (FieldM f) = false
is_constructor (CtorM n params sets) = true
is_constructor (MethodM m) = false

-- whether two types are written alike
abbrev pub is_same_type : TypeName → TypeName → Bool
is_same_type Y.Int Y.Int = true
is_same_type Y.Boolean Y.Boolean = true
is_same_type (Y.Class m) (Y.Class n) = bytes_eq m.text n.text
is_same_type _ _ = false

-- whether parameters have the types and names of final fields, in order
abbrev pub are_params_of : List (TypeName × Name) → List Param → Bool
are_params_of [] [] = true
are_params_of [] (p ∷ ps) = false
are_params_of (f ∷ fs) [] = false
are_params_of (f ∷ fs) (p ∷ ps) = is_same_type f.0 p.ty && (bytes_eq f.1.text p.name.text && are_params_of fs ps)

-- whether assignments are `this.f = f` for final fields, in order
abbrev pub are_sets_of : List (TypeName × Name) → List (Name × Name) → Bool
are_sets_of [] [] = true
are_sets_of [] (s ∷ ss) = false
are_sets_of (f ∷ fs) [] = false
are_sets_of (f ∷ fs) (s ∷ ss) = bytes_eq f.1.text s.0.text && (bytes_eq f.1.text s.1.text && are_sets_of fs ss)

-- whether a method is void, without parameters and without `requires`
abbrev pub is_bare : MethodTree → Bool
is_bare m = is_none m.returns && (has_none m.params && has_none m.locks)

-- whether a member is a method of this name that a thread can begin with
abbrev pub is_entry : List ℕ → MemberTree → Bool
is_entry text (FieldM f) = false
is_entry text (CtorM n params sets) = false
is_entry text (MethodM m) = bytes_eq m.name.text text && is_bare m
