-- Parts that are gathered one after the other.
use Rattle.std.specs.Prelude.{ℕ, ◌+◌, List, [], ◌∷◌, ◌++◌, Option, Some, None, option_map, if◌then◌else◌}
use Rattle.core_program.specs.Core.{Field, Method}
use Rattle.syntax.specs.Trees.{MemberTree, FieldM, CtorM, MethodM}
use Rattle.classes.specs.Table.{TableData}
use Rattle.typing.specs.declared.fault.TypeFault.{TypeFault}
use Rattle.typing.specs.declared.gather.Gathered.{Gathered}
use Rattle.typing.specs.Rulings.{both}
use Rattle.typing.specs.Programs.{guard_tree_path, field_node, method_core, method_faults}

-- the parts so far, where none was missing
abbrev pub gathered : {T : Type 0} → Gathered T → Option (List T)
gathered g = if g.missing then None else Some g.items.items

-- parts with one more at their end
abbrev pub one_more : {T : Type 0} → Option (List T) → Option T → Option (List T)
one_more None part = None
one_more (Some parts) None = None
one_more (Some parts) (Some part) = Some (parts ++ part ∷ [])

-- parts with others at their end
abbrev pub appended : {T : Type 0} → Option (List T) → Option (List T) → Option (List T)
appended parts more = option_map (λ p. p.0 ++ p.1) (both parts more)

-- the fields so far, with that of a member of the class with number k, in which so many fields stand before it
abbrev pub with_core_field : TableData → ℕ → ℕ → MemberTree → Option (List Field) → Option (List Field)
with_core_field t k i (FieldM f) fields =
    one_more fields (option_map (field_node t k i f) (guard_tree_path t k f.guard))
with_core_field t k i (CtorM n params sets) fields = fields
with_core_field t k i (MethodM m) fields = fields

-- the methods so far, with that of a member of the class with number k
abbrev pub with_method : TableData → ℕ → MemberTree → Option (List Method) → Option (List Method)
with_method t k (FieldM f) methods = methods
with_method t k (CtorM n params sets) methods = methods
with_method t k (MethodM m) methods = one_more methods (method_core t k m)

-- how many fields stand before the next member
abbrev pub index_after : MemberTree → ℕ → ℕ
index_after (FieldM f) i = i + 1
index_after (CtorM n params sets) i = i
index_after (MethodM m) i = i

-- the core method of a member that is a method
abbrev pub core_method_of : TableData → ℕ → MemberTree → Option Method
core_method_of t k (FieldM f) = None
core_method_of t k (CtorM n params sets) = None
core_method_of t k (MethodM m) = method_core t k m

-- the faults of a member that is a method
abbrev pub faults_in_method : TableData → ℕ → MemberTree → List TypeFault
faults_in_method t k (FieldM f) = []
faults_in_method t k (CtorM n params sets) = []
faults_in_method t k (MethodM m) = method_faults t k m
