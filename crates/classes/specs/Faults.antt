-- The faults of a program's classes: which conditions stand, and at which offsets.
use Rattle.std.specs.Prelude.{ℕ, ◌^◌, ◌+◌, Bool, true, false, not, ◌&&◌, ◌||◌, List, [], ◌∷◌, ◌++◌, Option, Some, None, map, flat_map, slice_get, codes, bytes_eq, if◌then◌else◌}
use Rattle.std.specs.List.{list_any}
use Rattle.syntax.specs.declared.tree.Name.{Name}
use Rattle.syntax.specs.declared.tree.Param.{Param}
use Rattle.syntax.specs.declared.tree.TypeName.{TypeName}
use Rattle.syntax.specs.declared.tree.TypeName.TheVariants as Y
use Rattle.syntax.specs.Trees.{MemberTree, FieldM, CtorM, MethodM, ClassTree, ProgramTree}
use Rattle.classes.specs.declared.first.FaultPlace.{FaultPlace}
use Rattle.classes.specs.First.{IsFirstOfFaults}
use Rattle.classes.specs.declared.fault.ClassFault.{ClassFault}
use Rattle.classes.specs.declared.fault.ClassFault.TheVariants.{Twice, UnknownClass, BadConstructor, NoMain, NoRun, TooMany, NoMemory, Circle, BadOverride}
use Rattle.classes.specs.Limits.{most_class_fields, most_method_parameters}
use Rattle.classes.specs.Names.{texts_of, has_text, repeats, repeats_after}
use Rattle.classes.specs.Members.{has_none, class_names, field_names, method_names, param_names, finals_of, is_constructor, are_params_of, are_sets_of, is_entry}
use Rattle.classes.specs.Lines.{is_on_circle, ancestor_classes, inherited, all_members, says_so}
use Rattle.classes.specs.Overriding.{Heading, headings_at, overrides_badly}

-- a fault for each name that stands again
abbrev pub twice_faults : List Name → List ClassFault
twice_faults names = map Twice (repeats names)

-- a fault for each of these fields that has the name of an inherited one, or of one of these that stood before
abbrev pub field_faults : List MemberTree → List MemberTree → List ClassFault
field_faults inherited ms = map Twice (repeats_after (texts_of (field_names inherited)) (field_names ms))

-- a fault at the name with this number, counted from 0, where there is one
abbrev pub too_many_faults : Option Name → List ClassFault
too_many_faults None = []
too_many_faults (Some n) = TooMany n.at ∷ []

-- of a type: it is no class of the program, as a test on texts tells
abbrev pub type_faults : (List ℕ → Bool) → TypeName → List ClassFault
type_faults is_class Y.Int = []
type_faults is_class Y.Boolean = []
type_faults is_class (Y.Class n) = if is_class n.text then [] else UnknownClass n.at ∷ []

-- of a result; none is `void`
abbrev pub result_faults : (List ℕ → Bool) → Option TypeName → List ClassFault
result_faults is_class None = []
result_faults is_class (Some ty) = type_faults is_class ty

-- of the name after `extends`
abbrev pub above_faults : (List ℕ → Bool) → Option Name → List ClassFault
above_faults is_class None = []
above_faults is_class (Some n) = if is_class n.text then [] else UnknownClass n.at ∷ []

-- of parameters: a name again, an unknown type, one too many
abbrev pub params_faults : (List ℕ → Bool) → List Param → List ClassFault
params_faults is_class params =
    twice_faults (param_names params)
    ++ flat_map (λ p. type_faults is_class p.ty) params
    ++ too_many_faults (slice_get (param_names params) most_method_parameters)

-- of a member by itself
abbrev pub member_all_class_faults : (List ℕ → Bool) → MemberTree → List ClassFault
member_all_class_faults is_class (FieldM f) = type_faults is_class f.ty
member_all_class_faults is_class (CtorM n params sets) = params_faults is_class params
member_all_class_faults is_class (MethodM m) = result_faults is_class m.returns ++ params_faults is_class m.params

-- whether a constructor is that of a class of this name with these final fields
abbrev pub is_right : Name → List (TypeName × Name) → Name → List Param → List (Name × Name) → Bool
is_right class finals n params sets =
    not (has_none finals) && (bytes_eq n.text class.text && (are_params_of finals params && are_sets_of finals sets))

-- of the constructors: each that isn't right, and each after a first one
abbrev pub constructor_faults : Name → List (TypeName × Name) → Bool → List MemberTree → List ClassFault
constructor_faults class finals later [] = []
constructor_faults class finals later (FieldM f ∷ ms) = constructor_faults class finals later ms
constructor_faults class finals later (CtorM n params sets ∷ ms) =
    if not later && is_right class finals n params sets
    then constructor_faults class finals true ms
    else BadConstructor n.at ∷ constructor_faults class finals true ms
constructor_faults class finals later (MethodM m ∷ ms) = constructor_faults class finals later ms

-- of a class with final fields and no constructor
abbrev pub missing_constructor : Name → List (TypeName × Name) → List MemberTree → List ClassFault
missing_constructor class finals ms =
    if has_none finals || list_any is_constructor ms then [] else BadConstructor class.at ∷ []

-- of a class of this name that counts as `implements Runnable` and has no `run` to begin with among these members
abbrev pub missing_run : Name → Bool → List MemberTree → List ClassFault
missing_run class says_so ms = if not says_so || list_any (is_entry (codes "run")) ms then [] else NoRun class.at ∷ []

-- of a class on or below a circle
abbrev pub circle_faults : Name → Bool → List ClassFault
circle_faults class on_circle = if on_circle then Circle class.at ∷ [] else []

-- of methods of a class that inherits from these classes, where each class has its methods: each that overrides one that it may not override
abbrev pub override_faults : (ℕ → List Heading) → List ℕ → List Heading → List ClassFault
override_faults methods ancestor_classes [] = []
override_faults methods ancestor_classes (m ∷ ms) =
    if overrides_badly methods ancestor_classes m then BadOverride m.name.at ∷ override_faults methods ancestor_classes ms else override_faults methods ancestor_classes ms

-- whether a text is the name of a class
abbrev pub is_class_in : ProgramTree → List ℕ → Bool
is_class_in tree = has_text (texts_of (class_names tree))

-- of a class, which has the number k, but for the names of its fields
abbrev pub other_faults : ProgramTree → ℕ → ClassTree → List ClassFault
other_faults tree k c =
    twice_faults (method_names c.members)
    ++ above_faults (is_class_in tree) c.above
    ++ flat_map (member_all_class_faults (is_class_in tree)) c.members
    ++ missing_constructor c.name (finals_of (all_members tree k)) c.members
    ++ constructor_faults c.name (finals_of (all_members tree k)) false c.members
    ++ missing_run c.name (says_so tree k) (all_members tree k)
    ++ too_many_faults (slice_get (field_names (all_members tree k)) most_class_fields)
    ++ circle_faults c.name (is_on_circle tree k)
    ++ override_faults (headings_at tree) (ancestor_classes tree k) (headings_at tree k)

-- of a class, which has the number k
abbrev pub class_faults : ProgramTree → ℕ → ClassTree → List ClassFault
class_faults tree k c = field_faults (inherited tree k) c.members ++ other_faults tree k c

-- of these classes, the first of which has the number k
abbrev pub class_faults_from : ProgramTree → ℕ → List ClassTree → List ClassFault
class_faults_from tree k [] = []
class_faults_from tree k (c ∷ cs) = class_faults tree k c ++ class_faults_from tree (k + 1) cs

-- whether a class is `Main`, and its members, inherited ones among them, are without final fields and have a `main` to begin with
abbrev pub is_main : Name → List MemberTree → Bool
is_main class ms = bytes_eq class.text (codes "Main") && (has_none (finals_of ms) && list_any (is_entry (codes "main")) ms)

-- whether one of these classes, the first of which has the number k, is a class to begin with
abbrev pub has_main : ProgramTree → ℕ → List ClassTree → Bool
has_main tree k [] = false
has_main tree k (c ∷ cs) = is_main c.name (all_members tree k) || has_main tree (k + 1) cs

-- of a program without a class to begin with
abbrev pub missing_main : ProgramTree → List ClassFault
missing_main tree = if has_main tree 0 tree then [] else NoMain ∷ []

-- all faults of a program
abbrev pub all_class_faults : ProgramTree → List ClassFault
all_class_faults tree = twice_faults (class_names tree) ++ class_faults_from tree 0 tree ++ missing_main tree

-- the offset at which a fault stands; `NoMain` stands behind every offset
abbrev pub class_fault_offset : ClassFault → ℕ
class_fault_offset (Twice at) = at
class_fault_offset (UnknownClass at) = at
class_fault_offset (BadConstructor at) = at
class_fault_offset (NoRun at) = at
class_fault_offset (TooMany at) = at
class_fault_offset (Circle at) = at
class_fault_offset (BadOverride at) = at
class_fault_offset NoMain = 2 ^ 32
class_fault_offset NoMemory = 2 ^ 32

-- the order of faults at one offset
abbrev pub class_fault_rank : ClassFault → ℕ
class_fault_rank (Twice at) = 0
class_fault_rank (UnknownClass at) = 1
class_fault_rank (BadConstructor at) = 2
class_fault_rank (NoRun at) = 3
class_fault_rank (TooMany at) = 4
class_fault_rank (Circle at) = 5
class_fault_rank (BadOverride at) = 6
class_fault_rank NoMain = 7
class_fault_rank NoMemory = 8

-- where a fault stands
abbrev pub class_fault_place : ClassFault → FaultPlace
class_fault_place f = record { offset = class_fault_offset f; rank = class_fault_rank f }

-- the fault of a program's that is told: the first
abbrev pub IsFirstClassFault : ProgramTree → ClassFault → Type 0
IsFirstClassFault tree f = IsFirstOfFaults class_fault_place (all_class_faults tree) f
