-- Typed core programs: what elaboration gives, said of the core program's own parts.
use Rattle.std.specs.Prelude.{◌≡◌, ℕ, zero, suc, ◌+◌, ◌<◌, ◌≤◌, Bool, true, false, not, ◌&&◌, ◌||◌, ◌==◌, List, [], ◌∷◌, ◌++◌, map, length, filter, Option, Some, None, IfSome, IsSome, All, Contains, slice_get, sum_by, if◌then◌else◌}
use Rattle.std.specs.Ordering.{nat_cmp}
use Rattle.std.specs.List.Sorted.{IsStrictlySortedBy}
use Rattle.paths.specs.Paths.{PathData, path_order, most_fields}
use Rattle.core_program.specs.declared.types.CoreType.{CoreType}
use Rattle.core_program.specs.declared.types.CoreType.TheVariants as type
use Rattle.core_program.specs.Core.{Program, Class, Field, Method, Expr, TruthE, CallE, NewE}
use Rattle.core_program.specs.Core.{Stmt, Stmts, EmptyS, BlockS, LocalS, SetVarS, SetFieldS, DoS, IfS, WhileS, SyncS, ReturnS, PrintS, StartS, no_stmts, and_stmt}
use Rattle.base.specs.Ancestors.{IsAncestor}
use Rattle.core_program.specs.Dispatch.{above_of, is_kind_of, inherited_fields, partner, inherited_target, IsOwn, Overrides}
use Rattle.core_program.specs.Sizes.{stmt_height, stmt_nodes}
use Rattle.core_program.specs.Types.{NodeType, VoidT, int_type, boolean_type, class_type, Variable, HasType, HasFit}

-- Limits.
-- the greatest height of a body
abbrev pub most_body_height : ℕ
most_body_height = 64

-- the most fields of a class
abbrev pub most_class_fields : ℕ
most_class_fields = 32

-- the most parameters of a method
abbrev pub most_parameters : ℕ
most_parameters = 16

-- the most declared locals of a method
abbrev pub most_locals : ℕ
most_locals = 64

-- the most classes, fields, methods and nodes together
abbrev pub most_nodes : ℕ
most_nodes = 262144

-- a type of the program: its class, if it is one, is there
abbrev pub IsType : Program → CoreType → Type 0
IsType P type.Int = Unit {0}
IsType P type.Boolean = Unit {0}
IsType P (type.Class c) = c < length P.classes

-- Lock paths.

-- the slot is `this`, or a final variable in scope, and it has this class
abbrev pub IsRoot : ℕ → List Variable → ℕ → ℕ → Type 0
IsRoot class scope zero c = c ≡ class
IsRoot class scope (suc x) c = Contains scope (record { slot = suc x; is_final = true; ty = type.Class c })

-- from an object of this class each field is there, is the class's own or from above, is final, and leads to an object again
abbrev pub LeadsOn : Program → ℕ → List ℕ → Type 0
LeadsOn P c [] = Unit {0}
LeadsOn P c (f ∷ fs) = (field : Field) × (d : ℕ) × (slice_get P.fields f ≡ Some field) × (is_kind_of P c field.class ≡ true) × (field.is_final ≡ true) × (field.ty ≡ type.Class d) × LeadsOn P d fs

-- the path is one of a lock expression, for the class of `this` and the variables in scope
pub record IsLock (P : Program) (class : ℕ) (scope : List Variable) (p : PathData) : Type 0 where
  pub root_class : ℕ
  pub root : IsRoot class scope p.root root_class
  pub fields : LeadsOn P root_class p.fields
  pub short : length p.fields ≤ most_fields

-- Slots.

-- a method's parameters as variables, the first of them in this slot
abbrev pub parameters_in_scope : ℕ → List (Bool × CoreType) → List Variable
parameters_in_scope x [] = []
parameters_in_scope x (p ∷ ps) = record { slot = x; is_final = p.0; ty = p.1 } ∷ parameters_in_scope (x + 1) ps

-- slot 0 is `this`, the parameters follow
abbrev pub parameters : Method → List Variable
parameters m = parameters_in_scope 1 m.params

-- the variables in scope after a statement, where they were these before it
abbrev pub variables_after : Stmt → List Variable → List Variable
variables_after (LocalS x is_final ty e) scope = record { slot = x; is_final = is_final; ty = ty } ∷ scope
variables_after _ scope = scope

-- The locals of a statement and of a block.
abbrev mutual
  -- how many locals a statement declares
  pub declared_in : Stmt → ℕ
  declared_in (BlockS ss) = declared_in_each ss
  declared_in (LocalS x is_final ty e) = 1
  declared_in (IfS c s t) = declared_in s + declared_in t
  declared_in (WhileS c s) = declared_in s
  declared_in (SyncS p s) = declared_in s
  declared_in _ = 0

  -- how many locals the statements of a block declare together
  pub declared_in_each : Stmts → ℕ
  declared_in_each no_stmts = 0
  declared_in_each (and_stmt s ss) = declared_in s + declared_in_each ss

-- Statements.

-- what may stand as a statement of its own
abbrev pub is_call_or_new : Expr → Bool
is_call_or_new (CallE e m args) = true
is_call_or_new (NewE c args) = true
is_call_or_new _ = false

-- whether a node gives a value
abbrev pub gives_value : NodeType → Bool
gives_value VoidT = false
gives_value _ = true

-- the class counts as `implements Runnable`: it has a method that runs for `run`
abbrev pub IsRunnable : Program → ℕ → Type 0
IsRunnable P c = (class : Class) × (slice_get P.classes c ≡ Some class) × IsSome class.run

-- an expression is typed, and what it gives is an object of this class or of one below it
abbrev pub IsOf : Program → ℕ → List Variable → Expr → ℕ → Type 0
IsOf P class scope e d = (c : ℕ) × HasType P class scope e (class_type c) × (is_kind_of P c d ≡ true)

-- in a method of this class and with this result or none
module _ (P : Program) (class : ℕ) (result : Option CoreType) where
  -- a value that fits the result, or no value and no result
  abbrev pub IsResult : List Variable → Option Expr → Option CoreType → Type 0
  IsResult scope None None = Unit {0}
  IsResult scope None (Some t) = ⊥
  IsResult scope (Some e) None = ⊥
  IsResult scope (Some e) (Some t) = HasFit P class scope e t

  abbrev mutual
    -- the rules of statements, for the variables in scope and the next free slot
    pub IsTypedStmt : Stmt → List Variable → ℕ → Type 0
    IsTypedStmt EmptyS scope next = Unit {0}
    IsTypedStmt (BlockS ss) scope next = AreTypedStmts ss scope next
    IsTypedStmt (LocalS x is_final ty e) scope next = (x ≡ next) × IsType P ty × HasFit P class scope e ty
    IsTypedStmt (SetVarS x e) scope next = (ty : CoreType) × Contains scope (record { slot = x; is_final = false; ty = ty }) × HasFit P class scope e ty
    IsTypedStmt (SetFieldS e f g) scope next = (field : Field) × (slice_get P.fields f ≡ Some field) × (field.is_final ≡ false) × IsOf P class scope e field.class × HasFit P class scope g field.ty
    IsTypedStmt (DoS e drops) scope next = (T : NodeType) × HasType P class scope e T × (is_call_or_new e ≡ true) × (drops ≡ gives_value T)
    IsTypedStmt (IfS c s t) scope next = HasType P class scope c boolean_type × IsTypedStmt s scope next × IsTypedStmt t scope (next + declared_in s)
    IsTypedStmt (WhileS c s) scope next = HasType P class scope c boolean_type × IsTypedStmt s scope next
    IsTypedStmt (SyncS p s) scope next = IsLock P class scope p × IsTypedStmt s scope next
    IsTypedStmt (ReturnS e) scope next = IsResult scope e result
    IsTypedStmt (PrintS e) scope next = HasType P class scope e int_type
    IsTypedStmt (StartS e) scope next = (c : ℕ) × HasType P class scope e (class_type c) × IsRunnable P c

    -- the statements of a block, one after the other
    pub AreTypedStmts : Stmts → List Variable → ℕ → Type 0
    AreTypedStmts no_stmts scope next = Unit {0}
    AreTypedStmts (and_stmt s ss) scope next = IsTypedStmt s scope next × AreTypedStmts ss (variables_after s scope) (next + declared_in s)

-- Whether a body can complete.

-- whether a condition is the literal `true`
abbrev pub is_true_literal : Expr → Bool
is_true_literal (TruthE b) = b
is_true_literal _ = false

-- What can be reached behind a statement and behind a block.
abbrev mutual
  -- whether what stands after a statement can be reached
  pub can_complete : Stmt → Bool
  can_complete (BlockS ss) = completes_each ss
  can_complete (IfS c s t) = can_complete s || can_complete t
  can_complete (WhileS c s) = not (is_true_literal c)
  can_complete (SyncS p s) = can_complete s
  can_complete (ReturnS e) = false
  can_complete _ = true

  -- whether what stands after these statements can be reached, which is so where each of them completes
  pub completes_each : Stmts → Bool
  completes_each no_stmts = true
  completes_each (and_stmt s ss) = can_complete s && completes_each ss

-- Classes, fields, methods and programs.

-- classes, fields, methods and nodes together
abbrev pub size_of : Program → ℕ
size_of P = length P.classes + length P.fields + length P.methods + sum_by (λ m. stmt_nodes m.body) P.methods

-- the ids of a class's fields in order, where the list of fields begins at this id
abbrev pub fields_from : ℕ → ℕ → List Field → List ℕ
fields_from c n [] = []
fields_from c n (f ∷ fs) = if f.class == c then n ∷ fields_from c (n + 1) fs else fields_from c (n + 1) fs

-- whether there is a field, and it is final
abbrev pub is_final_at : Option Field → Bool
is_final_at None = false
is_final_at (Some f) = f.is_final

-- a method that the class has, its own or from above, without parameters, result and required locks
pub record IsEntry (P : Program) (class m : ℕ) : Type 0 where
  pub method : Method
  pub is : slice_get P.methods m ≡ Some method
  pub of_class : is_kind_of P class method.class ≡ true
  pub no_parameters : method.params ≡ []
  pub no_result : method.result ≡ None
  pub no_locks : method.requires_ ≡ []

-- what a class pairs a method with: its own with itself, one from above with one of its own or with what the class above pairs it with
pub data IsTarget (P : Program) (c : ℕ) (above : Option ℕ) (m n : ℕ) : Type 0 where
  own : IsOwn P c m → n ≡ m → IsTarget P c above m n
  overridden : IsSome (inherited_target P above m) → IsOwn P c n → IsTarget P c above m n
  inherited : inherited_target P above m ≡ Some n → IsTarget P c above m n

-- the pairs of a class: they ascend, each is such a pair of two methods that are there, and each method that the class has stands in one
pub record AreTargets (P : Program) (c : ℕ) (class : Class) : Type 0 where
  pub ascend : IsStrictlySortedBy nat_cmp (map (λ p. p.0) class.targets)
  pub each : (m n : ℕ) → partner class.targets m ≡ Some n → IsTarget P c class.above m n
  pub all_own : (m : ℕ) → IsOwn P c m → IsSome (partner class.targets m)
  pub all_inherited : (m : ℕ) → IsSome (inherited_target P class.above m) → IsSome (partner class.targets m)
  pub ids : All (λ p. (p.0 < length P.methods) × (p.1 < length P.methods)) class.targets

-- two methods with equal parameter types and finalities, results, annotations and required locks
pub record AreAlike (first second : Method) : Type 0 where
  pub params : first.params ≡ second.params
  pub result : first.result ≡ second.result
  pub annotated : first.annotated ≡ second.annotated
  pub requires_ : first.requires_ ≡ second.requires_

-- a class: the class above is there, no class is its own ancestor, the fields are those from above and then its own in order, the final fields are
-- the final ones among them, its pairs are those of its methods, `run` is an entry of it and is there where the class above has one
pub record IsTypedClass (P : Program) (c : ℕ) (class : Class) : Type 0 where
  pub above : IfSome class.above (λ d. d < length P.classes)
  pub apart : IsAncestor (above_of P) c c → ⊥
  pub fields : class.fields ≡ inherited_fields P class.above ++ fields_from c 0 P.fields
  pub finals : class.finals ≡ filter (λ f. is_final_at (slice_get P.fields f)) class.fields
  pub targets : AreTargets P c class
  pub run : IfSome class.run (IsEntry P c)
  pub runs : (d : ℕ) → class.above ≡ Some d → IsRunnable P d → IsSome class.run
  pub few : length class.fields ≤ most_class_fields

-- a field: it stands in its class at its index, its guard is rooted at `this`, a final field has none, and only a guard guards writes alone
pub record IsTypedField (P : Program) (f : ℕ) (field : Field) : Type 0 where
  pub class : Class
  pub of_class : slice_get P.classes field.class ≡ Some class
  pub index : slice_get class.fields field.index ≡ Some f
  pub ty : IsType P field.ty
  pub guard : IfSome field.guard (IsLock P field.class [])
  pub unguarded : field.is_final ≡ true → field.guard ≡ None
  pub writes : field.writes_only ≡ true → IsSome field.guard

-- a method: its required locks ascend, its slots are `this`, its parameters and its locals, its body is typed, and one with a result can't complete
pub record IsTypedMethod (P : Program) (method : Method) : Type 0 where
  pub class : method.class < length P.classes
  pub params : All (λ p. IsType P p.1) method.params
  pub result : IfSome method.result (IsType P)
  pub locks : All (IsLock P method.class (parameters method)) method.requires_
  pub ascending : IsStrictlySortedBy path_order method.requires_
  pub slots : method.slots ≡ 1 + length method.params + declared_in method.body
  pub body : IsTypedStmt P method.class method.result method.body (parameters method) (1 + length method.params)
  pub returns : IsSome method.result → can_complete method.body ≡ false
  pub low : stmt_height method.body ≤ most_body_height
  pub few_params : length method.params ≤ most_parameters
  pub few_locals : declared_in method.body ≤ most_locals

-- a typed core program; an overriding method is like the one that it overrides
pub record IsTyped (P : Program) : Type 0 where
  pub classes : (c : ℕ) (class : Class) → slice_get P.classes c ≡ Some class → IsTypedClass P c class
  pub fields : (f : ℕ) (field : Field) → slice_get P.fields f ≡ Some field → IsTypedField P f field
  pub methods : (m : ℕ) (method : Method) → slice_get P.methods m ≡ Some method → IsTypedMethod P method
  pub overriding : (over m : ℕ) (first second : Method) → Overrides P over m → slice_get P.methods over ≡ Some first → slice_get P.methods m ≡ Some second → AreAlike first second
  pub main : IsEntry P P.main_class P.main
  pub no_finals : (class : Class) → slice_get P.classes P.main_class ≡ Some class → class.finals ≡ []
  pub size : size_of P ≤ most_nodes
