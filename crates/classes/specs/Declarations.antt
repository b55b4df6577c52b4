-- Where the names that a class table lends are declared.
use Rattle.std.specs.Prelude.{◌≡◌, ℕ, List, [], ◌∷◌, flat_map, Some, slice_get}
use Rattle.lexer.specs.Tokens.{IsSlice}
use Rattle.syntax.specs.declared.tree.Name.{Name}
use Rattle.syntax.specs.declared.tree.Param.{Param}
use Rattle.syntax.specs.Tokens.{name_token}
use Rattle.syntax.specs.Trees.{MemberTree, FieldM, CtorM, MethodM, ProgramTree}
use Rattle.classes.specs.Members.{field_names, method_names}

-- the names of the fields of all classes, in source order
abbrev pub declared_fields : ProgramTree → List Name
declared_fields tree = flat_map (λ c. field_names c.members) tree

-- the names of the methods of all classes, in source order
abbrev pub declared_methods : ProgramTree → List Name
declared_methods tree = flat_map (λ c. method_names c.members) tree

-- the parameters of each method of a class, in the order of its methods
abbrev pub method_params : List MemberTree → List (List Param)
method_params [] = []
method_params (FieldM f ∷ ms) = method_params ms
method_params (CtorM n params sets ∷ ms) = method_params ms
method_params (MethodM m ∷ ms) = m.params ∷ method_params ms

-- the parameters of the methods of all classes, in source order
abbrev pub declared_params : ProgramTree → List (List Param)
declared_params tree = flat_map (λ c. method_params c.members) tree

-- the text is that of the name with this number, and it is the slice of the source there
pub record IsDeclared (source : List ℕ) (names : List Name) (number : ℕ) (text : List ℕ) : Type 0 where
  pub name : Name
  pub there : slice_get names number ≡ Some name
  pub same : text ≡ name.text
  pub slice : IsSlice source (name_token name)
