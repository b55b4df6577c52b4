-- Programs: all type faults of a program, the first of them, and the core program of one without faults.
use Rattle.std.specs.Prelude.{◌≡◌, ℕ, ◌+◌, true, ◌&&◌, List, [], ◌∷◌, ◌++◌, Option, Some, None, map, flat_map, length, option_map, unwrap_or, is_some, codes, if◌then◌else◌}
use Rattle.std.specs.declared.cmp.Ordering.{Ordering}
use Rattle.std.specs.declared.cmp.Ordering.TheVariants.{Less, Equal, Greater}
use Rattle.paths.specs.Paths.{PathData, path_order}
use Rattle.core_program.specs.declared.types.CoreType.{CoreType}
use Rattle.core_program.specs.Core.{Program, Field, Method, Stmts, BlockS}
use Rattle.classes.specs.First.{IsFirstOfFaults}
use Rattle.syntax.specs.Trees.{LockTree, MethodTree, FieldTree, MemberTree, FieldM, CtorM, MethodM, ProgramTree}
use Rattle.classes.specs.Table.{TableData, type_of, class_number, method_number, table_of}
use Rattle.typing.specs.declared.fault.TypeFault.{TypeFault}
use Rattle.typing.specs.declared.fault.TypeFault.TheVariants.{MissingReturn}
use Rattle.typing.specs.Faults.{type_fault_place}
use Rattle.typing.specs.Rulings.{gain, loss, both}
use Rattle.typing.specs.Scopes.{Scope, scope_of_parameters}
use Rattle.typing.specs.Locks.{lock_rule}
use Rattle.typing.specs.Completion.{completes_each, locals_in_each}
use Rattle.typing.specs.Stmts.{block_core, block_faults}
use Rattle.typing.specs.Classes.{inherited_count, all_classes}

-- all of a list, where none is missing
abbrev pub all_there : {A : Type 0} → List (Option A) → Option (List A)
all_there [] = Some []
all_there (a ∷ rest) = option_map (λ p. p.0 ∷ p.1) (both a (all_there rest))

-- the first, second or third of three, for an order
abbrev pub chosen_by_order : {A : Type 0} → Ordering → A → A → A → A
chosen_by_order Less x y z = x
chosen_by_order Equal x y z = y
chosen_by_order Greater x y z = z

-- a path put into an ascending list, where it isn't there yet
abbrev pub inserted : PathData → List PathData → List PathData
inserted p [] = p ∷ []
inserted p (q ∷ qs) = chosen_by_order (path_order p q) (p ∷ q ∷ qs) (q ∷ qs) (q ∷ inserted p qs)

-- these paths in ascending order, each once
abbrev pub ascending : List PathData → List PathData
ascending [] = []
ascending (p ∷ ps) = inserted p (ascending ps)

module _ (t : TableData) where
  -- ---- methods

  -- the parameters of a method, as they are in scope
  abbrev pub method_scope : MethodTree → Scope
  method_scope m = scope_of_parameters t 1 m.params

  -- the result of a method
  abbrev pub method_result : MethodTree → Option CoreType
  method_result m = option_map (type_of t.names) m.returns

  -- of a method with a result whose body can complete
  abbrev pub missing_return : MethodTree → List TypeFault
  missing_return m = if is_some m.returns && completes_each m.body then MissingReturn m.end ∷ [] else []

  -- the faults of a method of the class with number k
  abbrev pub method_faults : ℕ → MethodTree → List TypeFault
  method_faults k m =
      flat_map (λ l. loss (lock_rule t k (method_scope m) l)) m.locks
      ++ (block_faults t k (method_result m) (1 + length m.params) (method_scope m) 0 true m.body
      ++ missing_return m)

  -- the core method of a method of the class with number k, from its locks and its body
  abbrev pub method_node : ℕ → MethodTree → List PathData × Stmts → Method
  method_node k m p = record {
    class = k;
    place_at = m.name.at;
    annotated = m.atomic;
    requires_ = ascending p.0;
    params = map (λ q. (q.is_final, type_of t.names q.ty)) m.params;
    result = method_result m;
    slots = 1 + length m.params + locals_in_each m.body;
    body = BlockS p.1;
  }

  -- the core method, where each of its locks is one and each statement of its body has a core node
  abbrev pub method_core : ℕ → MethodTree → Option Method
  method_core k m =
      option_map (method_node k m)
      (both (all_there (map (λ l. gain (lock_rule t k (method_scope m) l)) m.locks))
      (block_core t k (method_result m) (1 + length m.params) (method_scope m) 0 m.body))

  -- ---- fields

  -- the faults of a guard, if there is one; no variable is in scope
  abbrev pub guard_faults : ℕ → Option LockTree → List TypeFault
  guard_faults k None = []
  guard_faults k (Some l) = loss (lock_rule t k [] l)

  -- the path of a guard, if there is one; missing where the guard is no lock
  abbrev pub guard_tree_path : ℕ → Option LockTree → Option (Option PathData)
  guard_tree_path k None = Some None
  guard_tree_path k (Some l) = option_map Some (gain (lock_rule t k [] l))

  -- ---- classes

  -- the faults of a member of the class with number k; a constructor has none
  abbrev pub member_type_faults : ℕ → MemberTree → List TypeFault
  member_type_faults k (FieldM f) = guard_faults k f.guard
  member_type_faults k (CtorM n params sets) = []
  member_type_faults k (MethodM m) = method_faults k m

  -- the faults of classes, the first of which has the number k
  abbrev pub type_faults_from : ℕ → ProgramTree → List TypeFault
  type_faults_from k [] = []
  type_faults_from k (c ∷ cs) = flat_map (member_type_faults k) c.members ++ type_faults_from (k + 1) cs

  -- the core field of a field of the class with number k, with its index and the path of its guard
  abbrev pub field_node : ℕ → ℕ → FieldTree → Option PathData → Field
  field_node k i f g = record {
    class = k;
    index = i;
    is_final = f.is_final;
    ty = type_of t.names f.ty;
    guard = g;
    writes_only = f.writes_only;
  }

  -- the core fields of the class with number k, the first of which has this index
  abbrev pub fields_core : ℕ → ℕ → List MemberTree → List (Option Field)
  fields_core k i [] = []
  fields_core k i (FieldM f ∷ ms) =
      option_map (field_node k i f) (guard_tree_path k f.guard) ∷ fields_core k (i + 1) ms
  fields_core k i (CtorM n params sets ∷ ms) = fields_core k i ms
  fields_core k i (MethodM m ∷ ms) = fields_core k i ms

  -- the core methods of the class with number k
  abbrev pub methods_core : ℕ → List MemberTree → List (Option Method)
  methods_core k [] = []
  methods_core k (FieldM f ∷ ms) = methods_core k ms
  methods_core k (CtorM n params sets ∷ ms) = methods_core k ms
  methods_core k (MethodM m ∷ ms) = method_core k m ∷ methods_core k ms

  -- the core fields of classes, the first of which has the number k; those of a class follow the ones that it has from above
  abbrev pub all_core_fields : ℕ → ProgramTree → List (Option Field)
  all_core_fields k [] = []
  all_core_fields k (c ∷ cs) = fields_core k (inherited_count t k) c.members ++ all_core_fields (k + 1) cs

  -- the core methods of classes, the first of which has the number k
  abbrev pub all_core_methods : ℕ → ProgramTree → List (Option Method)
  all_core_methods k [] = []
  all_core_methods k (c ∷ cs) = methods_core k c.members ++ all_core_methods (k + 1) cs

  -- the class `Main`
  abbrev pub main_class : ℕ
  main_class = unwrap_or (class_number t (codes "Main")) 0

  -- the method that runs for `main` and it
  abbrev pub main_method : ℕ
  main_method = unwrap_or (method_number t main_class (codes "main")) 0

  -- the core program of these fields and methods, whose classes the class table tells
  abbrev pub program_node : List Field × List Method → Program
  program_node p = record {
    classes = all_classes t 0 t.classes;
    fields = p.0;
    methods = p.1;
    main_class = main_class;
    main = main_method;
  }

-- the type faults of a program without class faults
abbrev pub program_type_faults : ProgramTree → List TypeFault
program_type_faults tree = type_faults_from (table_of tree) 0 tree

-- the fault of a program's that is told: the first
abbrev pub IsFirstTypeFault : ProgramTree → TypeFault → Type 0
IsFirstTypeFault tree f = IsFirstOfFaults type_fault_place (program_type_faults tree) f

-- the core program of a program, where each of its parts has a core node
abbrev pub core_of : ProgramTree → Option Program
core_of tree =
    let t = table_of tree in
    option_map (program_node t) (both (all_there (all_core_fields t 0 tree)) (all_there (all_core_methods t 0 tree)))

-- the core program of a program without faults
pub record IsCoreOf (tree : ProgramTree) (P : Program) : Type 0 where
  pub faultless : program_type_faults tree ≡ []
  pub core : core_of tree ≡ Some P
