-- Where a part of a program has no faults, it has a core node.
use Rattle.std.proofs.Common.{◌≡◌, ℕ, ◌+◌, Bool, true, false, List, [], ◌∷◌, ◌++◌, Option, Some, None, IsSome, flat_map, map, length, Result, Ok, Err, refl, sym, ◌∙◌, ◌&&◌, nat_lt, option_map, if◌then◌else◌}
use Rattle.std.proofs.lemmas.Bool.{false≢true}
use Rattle.std.proofs.lemmas.Option.{same_Some}
use Rattle.base.proofs.Options.{some_there}
use Rattle.syntax.specs.declared.tree.Name.{Name}
use Rattle.syntax.specs.Trees.{ExprTree, ExprTrees, NumberE, LeastE, TruthE, NullE, ThisE, VarE, ParenE, NotE, NegE, BinaryE, GetE, CallE, NewE, no_exprs, more_exprs}
use Rattle.syntax.specs.Trees.{StmtTree, StmtTrees, EmptyS, BlockS, LocalS, SetVarS, SetFieldS, DoS, IfS, IfElseS, WhileS, SyncS, ReturnS, PrintS, StartS, no_stmts, more_stmts}
use Rattle.syntax.specs.Trees.{LockTree, MethodTree, MemberTree, FieldM, CtorM, MethodM, ProgramTree}
use Rattle.core_program.specs.declared.types.CoreType.{CoreType}
use Rattle.core_program.specs.Core as core
use Rattle.core_program.specs.Core.{Stmt, Program}
use Rattle.core_program.specs.Typed.{most_locals}
use Rattle.classes.specs.Table.{TableData, table_of}
use Rattle.typing.specs.declared.fault.TypeFault.TheVariants.{TooManyLocals}
use Rattle.typing.specs.Rules.{type_rule}
use Rattle.typing.specs.Locks.{lock_rule}
use Rattle.typing.specs.Completion.{completes, locals_in}
use Rattle.typing.specs.Stmts.{condition_rule, local_rule, too_many, set_rule, target_rule, put_rule, field_target, do_rule, if_node, return_rule, value_rule, print_rule, start_rule, unreachable, scope_after, stmt_core, block_core, stmt_faults, block_faults}
use Rattle.typing.specs.Classes.{inherited_count}
use Rattle.typing.specs.Programs.{all_there, method_scope, method_result, method_faults, method_node, method_core, guard_faults, guard_tree_path, member_type_faults, type_faults_from, fields_core, methods_core, all_core_fields, all_core_methods, program_node, program_type_faults, core_of, IsCoreOf}
use Rattle.typing.specs.declared.fault.TypeFault.{TypeFault}
use Rattle.typing.specs.Rulings.{gain, loss, ruled, broken, both}
use Rattle.typing.specs.Scopes.{Scope}
use Rattle.typing.specs.Rules.{TypedData, TypedList, not_rule, neg_rule, binary_rule, get_rule, call_rule, new_rule, number_rule, with_argument}
use Rattle.typing.specs.Exprs.{elaborated, elaborated_each, expr_faults, each_faults, call_fault, new_fault, variable_rule}

-- ---- lists

pub front_empty : {A : Type 0} (xs ys : List A) → xs ++ ys ≡ [] → xs ≡ []
front_empty [] ys h = refl
front_empty (x ∷ xs) ys h = absurd cc

pub back_empty : {A : Type 0} (xs ys : List A) → xs ++ ys ≡ [] → ys ≡ []
back_empty [] ys h = h
back_empty (x ∷ xs) ys h = absurd cc

-- ---- rules

pub gained : {A : Type 0} (r : Result A TypeFault) → loss r ≡ [] → IsSome (gain r)
gained (Ok a) h = refl
gained (Err f) h = absurd cc

pub gave : {A B : Type 0} (rule : A → Result B TypeFault) (o : Option A) → IsSome o → broken rule o ≡ [] → IsSome (ruled rule o)
gave rule (Some a) some h = gained (rule a) h
gave rule None some h = absurd (false≢true some)

pub both_some : {A B : Type 0} (o : Option A) (p : Option B) → IsSome o → IsSome p → IsSome (both o p)
both_some (Some a) (Some b) h k = refl
both_some None p h k = absurd (false≢true h)
both_some (Some a) None h k = absurd (false≢true k)

pub mapped_some : {A B : Type 0} (f : A → B) (o : Option A) → IsSome o → IsSome (option_map f o)
mapped_some f (Some a) h = refl
mapped_some f None h = absurd (false≢true h)

call_gave : (t : TableData) (n : Name) (e : Option TypedData) (args : Option TypedList) → IsSome e → IsSome args
    → call_fault t n e args ≡ [] → IsSome (ruled (call_rule t n) (both e args))
call_gave t n (Some e) (Some args) h k none = gained (call_rule t n (e, args)) none
call_gave t n None args h k none = absurd (false≢true h)
call_gave t n (Some e) None h k none = absurd (false≢true k)

new_gave : (t : TableData) (n : Name) (args : Option TypedList) → IsSome args → new_fault t n args ≡ [] → IsSome (ruled (new_rule t n) args)
new_gave t n (Some args) k none = gained (new_rule t n args) none
new_gave t n None k none = absurd (false≢true k)

-- ---- expressions

mutual
  pub expr_there : (t : TableData) (class : ℕ) (scope : Scope) (e : ExprTree) → expr_faults t class scope e ≡ [] → IsSome (elaborated t class scope e)
  expr_there t class scope (NumberE n at) h = gained (number_rule n at) h
  expr_there t class scope (LeastE at) h = refl
  expr_there t class scope (TruthE b at) h = refl
  expr_there t class scope (NullE at) h = refl
  expr_there t class scope (ThisE at) h = refl
  expr_there t class scope (VarE n) h = gained (variable_rule scope n) h
  expr_there t class scope (ParenE e at) h = expr_there t class scope e h
  expr_there t class scope (NotE e at) h =
      gave (not_rule at) (elaborated t class scope e) (expr_there t class scope e (front_empty (expr_faults t class scope e) _ h))
      (back_empty (expr_faults t class scope e) _ h)
  expr_there t class scope (NegE e at) h =
      gave (neg_rule at) (elaborated t class scope e) (expr_there t class scope e (front_empty (expr_faults t class scope e) _ h))
      (back_empty (expr_faults t class scope e) _ h)
  expr_there t class scope (BinaryE op a b at) h =
      let rest = back_empty (expr_faults t class scope a) _ h in
      gave (binary_rule t op at) (both (elaborated t class scope a) (elaborated t class scope b))
      (both_some (elaborated t class scope a) (elaborated t class scope b)
      (expr_there t class scope a (front_empty (expr_faults t class scope a) _ h))
      (expr_there t class scope b (front_empty (expr_faults t class scope b) _ rest)))
      (back_empty (expr_faults t class scope b) _ rest)
  expr_there t class scope (GetE e n) h =
      gave (get_rule t n) (elaborated t class scope e) (expr_there t class scope e (front_empty (expr_faults t class scope e) _ h))
      (back_empty (expr_faults t class scope e) _ h)
  expr_there t class scope (CallE e n args) h =
      let rest = back_empty (expr_faults t class scope e) _ h in
      call_gave t n (elaborated t class scope e) (elaborated_each t class scope args)
      (expr_there t class scope e (front_empty (expr_faults t class scope e) _ h))
      (each_there t class scope args (front_empty (each_faults t class scope args) _ rest))
      (back_empty (each_faults t class scope args) _ rest)
  expr_there t class scope (NewE n args at) h =
      new_gave t n (elaborated_each t class scope args)
      (each_there t class scope args (front_empty (each_faults t class scope args) _ h))
      (back_empty (each_faults t class scope args) _ h)

  pub each_there : (t : TableData) (class : ℕ) (scope : Scope) (es : ExprTrees) → each_faults t class scope es ≡ [] → IsSome (elaborated_each t class scope es)
  each_there t class scope no_exprs h = refl
  each_there t class scope (more_exprs e es) h =
      mapped_some with_argument (both (elaborated t class scope e) (elaborated_each t class scope es))
      (both_some (elaborated t class scope e) (elaborated_each t class scope es)
      (expr_there t class scope e (front_empty (expr_faults t class scope e) _ h))
      (each_there t class scope es (back_empty (expr_faults t class scope e) _ h)))

-- ---- statements

local_there : (before : ℕ) (o : Option Stmt) (n : Name) → too_many before n ≡ [] → IsSome o → IsSome (if nat_lt before most_locals then o else None)
local_there before o n =
    elim (nat_lt before most_locals) as (λ b. (if b then [] else TooManyLocals n.at ∷ []) ≡ [] → IsSome o → IsSome (if b then o else None)) [
      | true ↦ λ h some. some
      | false ↦ λ h some. absurd (let e : TooManyLocals n.at ∷ [] ≡ [] = h in cc)
    ]

module _ (t : TableData) (class : ℕ) (returns : Option CoreType) (first : ℕ) where
  -- a condition of a statement without faults
  condition_there : (scope : Scope) (c : ExprTree) (at : ℕ) (rest : List TypeFault)
      → expr_faults t class scope c ++ (broken (condition_rule at) (elaborated t class scope c) ++ rest) ≡ []
      → IsSome (ruled (condition_rule at) (elaborated t class scope c)) × (rest ≡ [])
  condition_there scope c at rest h =
      let later = back_empty (expr_faults t class scope c) _ h in (
        gave (condition_rule at) (elaborated t class scope c)
            (expr_there t class scope c (front_empty (expr_faults t class scope c) _ h))
            (front_empty (broken (condition_rule at) (elaborated t class scope c)) rest later),
        back_empty (broken (condition_rule at) (elaborated t class scope c)) rest later,
      )

  -- a statement of one expression
  one_there : (scope : Scope) (e : ExprTree) (rule : TypedData → Result Stmt TypeFault)
      → expr_faults t class scope e ++ broken rule (elaborated t class scope e) ≡ [] → IsSome (ruled rule (elaborated t class scope e))
  one_there scope e rule h =
      gave rule (elaborated t class scope e)
      (expr_there t class scope e (front_empty (expr_faults t class scope e) _ h))
      (back_empty (expr_faults t class scope e) _ h)

  mutual
    pub stmt_there : (scope : Scope) (before : ℕ) (s : StmtTree) → stmt_faults t class returns first scope before s ≡ [] → IsSome (stmt_core t class returns first scope before s)
    stmt_there scope before (EmptyS at) h = refl
    stmt_there scope before (BlockS ss at) h =
        mapped_some core.BlockS (block_core t class returns first scope before ss) (block_there scope before true ss h)
    stmt_there scope before (LocalS fin ty n e at) h =
        let later = back_empty (loss (type_rule t ty)) _ h in
        let last = back_empty (expr_faults t class scope e) _ later in
        let rule = local_rule t (first + before) fin n.at in
        let parts = both (gain (type_rule t ty)) (elaborated t class scope e) in
        local_there before (ruled rule parts) n
        (front_empty (too_many before n) _ (back_empty (broken rule parts) _ last))
        (gave rule parts
        (both_some (gain (type_rule t ty)) (elaborated t class scope e)
        (gained (type_rule t ty) (front_empty (loss (type_rule t ty)) _ h))
        (expr_there t class scope e (front_empty (expr_faults t class scope e) _ later)))
        (front_empty (broken rule parts) _ last))
    stmt_there scope before (SetVarS n e at) h =
        let later = back_empty (loss (target_rule scope n)) _ h in
        gave (set_rule t at) (both (gain (target_rule scope n)) (elaborated t class scope e))
        (both_some (gain (target_rule scope n)) (elaborated t class scope e)
        (gained (target_rule scope n) (front_empty (loss (target_rule scope n)) _ h))
        (expr_there t class scope e (front_empty (expr_faults t class scope e) _ later)))
        (back_empty (expr_faults t class scope e) _ later)
    stmt_there scope before (SetFieldS e n value at) h =
        let later = back_empty (expr_faults t class scope e) _ h in
        let last = back_empty (broken (field_target t n) (elaborated t class scope e)) _ later in
        gave (put_rule t at) (both (ruled (field_target t n) (elaborated t class scope e)) (elaborated t class scope value))
        (both_some (ruled (field_target t n) (elaborated t class scope e)) (elaborated t class scope value)
        (gave (field_target t n) (elaborated t class scope e)
        (expr_there t class scope e (front_empty (expr_faults t class scope e) _ h))
        (front_empty (broken (field_target t n) (elaborated t class scope e)) _ later))
        (expr_there t class scope value (front_empty (expr_faults t class scope value) _ last)))
        (back_empty (expr_faults t class scope value) _ last)
    stmt_there scope before (DoS e at) h = one_there scope e (do_rule at) h
    stmt_there scope before (IfS c s at) h =
        let parts = condition_there scope c at (stmt_faults t class returns first scope before s) h in
        mapped_some (λ p. core.IfS p.0 p.1 core.EmptyS)
        (both (ruled (condition_rule at) (elaborated t class scope c)) (stmt_core t class returns first scope before s))
        (both_some (ruled (condition_rule at) (elaborated t class scope c)) (stmt_core t class returns first scope before s)
        parts.0 (stmt_there scope before s parts.1))
    stmt_there scope before (IfElseS c s u at) h =
        let parts = condition_there scope c at _ h in
        let one = stmt_core t class returns first scope before s in
        let other = stmt_core t class returns first scope (before + locals_in s) u in
        mapped_some if_node (both (ruled (condition_rule at) (elaborated t class scope c)) (both one other))
        (both_some (ruled (condition_rule at) (elaborated t class scope c)) (both one other) parts.0
        (both_some one other
        (stmt_there scope before s (front_empty (stmt_faults t class returns first scope before s) _ parts.1))
        (stmt_there scope (before + locals_in s) u (back_empty (stmt_faults t class returns first scope before s) _ parts.1))))
    stmt_there scope before (WhileS c s at) h =
        let parts = condition_there scope c at (stmt_faults t class returns first scope before s) h in
        mapped_some (λ p. core.WhileS p.0 p.1)
        (both (ruled (condition_rule at) (elaborated t class scope c)) (stmt_core t class returns first scope before s))
        (both_some (ruled (condition_rule at) (elaborated t class scope c)) (stmt_core t class returns first scope before s)
        parts.0 (stmt_there scope before s parts.1))
    stmt_there scope before (SyncS l ss at) h =
        mapped_some (λ p. core.SyncS p.0 (core.BlockS p.1))
        (both (gain (lock_rule t class scope l)) (block_core t class returns first scope before ss))
        (both_some (gain (lock_rule t class scope l)) (block_core t class returns first scope before ss)
        (gained (lock_rule t class scope l) (front_empty (loss (lock_rule t class scope l)) _ h))
        (block_there scope before true ss (back_empty (loss (lock_rule t class scope l)) _ h)))
    stmt_there scope before (ReturnS None at) h = gained (return_rule at returns) h
    stmt_there scope before (ReturnS (Some e) at) h = one_there scope e (value_rule t at returns) h
    stmt_there scope before (PrintS e at) h = one_there scope e (print_rule at) h
    stmt_there scope before (StartS e at) h = one_there scope e (start_rule t at) h

    pub block_there : (scope : Scope) (before : ℕ) (live : Bool) (ss : StmtTrees) → block_faults t class returns first scope before live ss ≡ [] → IsSome (block_core t class returns first scope before ss)
    block_there scope before live no_stmts h = refl
    block_there scope before live (more_stmts s ss) h =
        let later = back_empty (unreachable live s) _ h in
        let one = stmt_core t class returns first scope before s in
        let rest = block_core t class returns first (scope_after t class returns first scope before s) (before + locals_in s) ss in
        mapped_some (λ p. core.and_stmt p.0 p.1) (both one rest)
        (both_some one rest
        (stmt_there scope before s (front_empty (stmt_faults t class returns first scope before s) _ later))
        (block_there (scope_after t class returns first scope before s) (before + locals_in s) (live && completes s) ss
        (back_empty (stmt_faults t class returns first scope before s) _ later)))

-- ---- lists of parts

abbrev pub AllSome : {A : Type 0} → List (Option A) → Type 0
AllSome [] = Unit {0}
AllSome (o ∷ os) = IsSome o × AllSome os

pub all_there_some : {A : Type 0} (os : List (Option A)) → AllSome os → IsSome (all_there os)
all_there_some [] h = refl
all_there_some (o ∷ os) h = mapped_some (λ p. p.0 ∷ p.1) (both o (all_there os)) (both_some o (all_there os) h.0 (all_there_some os h.1))

pub all_some_both : {A : Type 0} (os ps : List (Option A)) → AllSome os → AllSome ps → AllSome (os ++ ps)
all_some_both [] ps h k = k
all_some_both (o ∷ os) ps h k = (h.0, all_some_both os ps h.1 k)

-- the parts that rules give, where none tells a fault
pub gains_there : {X A : Type 0} (rule : X → Result A TypeFault) (xs : List X) → flat_map (λ x. loss (rule x)) xs ≡ [] → AllSome (map (λ x. gain (rule x)) xs)
gains_there rule [] h = tt
gains_there rule (x ∷ xs) h = (
  gained (rule x) (front_empty (loss (rule x)) (flat_map (λ x. loss (rule x)) xs) h),
  gains_there rule xs (back_empty (loss (rule x)) (flat_map (λ x. loss (rule x)) xs) h),
)

-- ---- methods, fields, classes

module _ (t : TableData) where
  pub method_there : (k : ℕ) (m : MethodTree) → method_faults t k m ≡ [] → IsSome (method_core t k m)
  method_there k m h =
      let scope = method_scope t m in
      let locks = flat_map (λ l. loss (lock_rule t k scope l)) m.locks in
      let body = block_faults t k (method_result t m) (1 + length m.params) scope 0 true m.body in
      let paths = all_there (map (λ l. gain (lock_rule t k scope l)) m.locks) in
      let stmts = block_core t k (method_result t m) (1 + length m.params) scope 0 m.body in
      let later = back_empty locks _ h in
      mapped_some (method_node t k m) (both paths stmts)
      (both_some paths stmts
      (all_there_some (map (λ l. gain (lock_rule t k scope l)) m.locks) (gains_there (lock_rule t k scope) m.locks (front_empty locks _ h)))
      (block_there t k (method_result t m) (1 + length m.params) scope 0 true m.body (front_empty body _ later)))

  guard_there : (k : ℕ) (guard : Option LockTree) → guard_faults t k guard ≡ [] → IsSome (guard_tree_path t k guard)
  guard_there k None h = refl
  guard_there k (Some l) h = mapped_some Some (gain (lock_rule t k [] l)) (gained (lock_rule t k [] l) h)

  pub fields_there : (k i : ℕ) (ms : List MemberTree) → flat_map (member_type_faults t k) ms ≡ [] → AllSome (fields_core t k i ms)
  fields_there k i [] h = tt
  fields_there k i (FieldM f ∷ ms) h = (
    mapped_some _ (guard_tree_path t k f.guard) (guard_there k f.guard (front_empty (guard_faults t k f.guard) (flat_map (member_type_faults t k) ms) h)),
    fields_there k (i + 1) ms (back_empty (guard_faults t k f.guard) (flat_map (member_type_faults t k) ms) h),
  )
  fields_there k i (CtorM n params sets ∷ ms) h = fields_there k i ms h
  fields_there k i (MethodM m ∷ ms) h = fields_there k i ms (back_empty (method_faults t k m) (flat_map (member_type_faults t k) ms) h)

  pub methods_there : (k : ℕ) (ms : List MemberTree) → flat_map (member_type_faults t k) ms ≡ [] → AllSome (methods_core t k ms)
  methods_there k [] h = tt
  methods_there k (FieldM f ∷ ms) h = methods_there k ms (back_empty (guard_faults t k f.guard) (flat_map (member_type_faults t k) ms) h)
  methods_there k (CtorM n params sets ∷ ms) h = methods_there k ms h
  methods_there k (MethodM m ∷ ms) h = (
    method_there k m (front_empty (method_faults t k m) (flat_map (member_type_faults t k) ms) h),
    methods_there k ms (back_empty (method_faults t k m) (flat_map (member_type_faults t k) ms) h),
  )

  pub all_fields_there : (k : ℕ) (cs : ProgramTree) → type_faults_from t k cs ≡ [] → AllSome (all_core_fields t k cs)
  all_fields_there k [] h = tt
  all_fields_there k (c ∷ cs) h =
      let own = flat_map (member_type_faults t k) c.members in
      all_some_both (fields_core t k (inherited_count t k) c.members) (all_core_fields t (k + 1) cs)
      (fields_there k (inherited_count t k) c.members (front_empty own _ h)) (all_fields_there (k + 1) cs (back_empty own _ h))

  pub all_methods_there : (k : ℕ) (cs : ProgramTree) → type_faults_from t k cs ≡ [] → AllSome (all_core_methods t k cs)
  all_methods_there k [] h = tt
  all_methods_there k (c ∷ cs) h =
      let own = flat_map (member_type_faults t k) c.members in
      all_some_both (methods_core t k c.members) (all_core_methods t (k + 1) cs)
      (methods_there k c.members (front_empty own _ h)) (all_methods_there (k + 1) cs (back_empty own _ h))

-- ---- programs

-- a program without faults has a core program
pub program_there : (tree : ProgramTree) → program_type_faults tree ≡ [] → (P : Program) × (core_of tree ≡ Some P)
program_there tree h =
    let t = table_of tree in
    some_there (core_of tree)
    (mapped_some (program_node t) (both (all_there (all_core_fields t 0 tree)) (all_there (all_core_methods t 0 tree)))
    (both_some (all_there (all_core_fields t 0 tree)) (all_there (all_core_methods t 0 tree))
    (all_there_some (all_core_fields t 0 tree) (all_fields_there t 0 tree h))
    (all_there_some (all_core_methods t 0 tree) (all_methods_there t 0 tree h))))

-- one without faults has exactly one
pub one_core : (tree : ProgramTree) (P Q : Program) → IsCoreOf tree P → IsCoreOf tree Q → P ≡ Q
one_core tree P Q p q = same_Some P Q (sym p.core ∙ q.core)
