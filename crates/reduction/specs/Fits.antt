-- When what a frame has still to do fits a phase: each item has the effect that the rules give it at some set of held paths,
-- each of these paths leads to an object whose lock is held, and the phase admits the effects one after the other.
use Rattle.std.specs.Prelude.{◌≡◌, ℕ, ◌+◌, Bool, true, false, ◌||◌, ◌==◌, ◌≤◌, List, [], ◌∷◌, ◌++◌, length, Option, Some, None, slice_get, if◌then◌else◌}
use Rattle.std.specs.List.{list_all}
use Rattle.paths.specs.Paths.{PathData, most_fields}
use Rattle.algebra.specs.declared.basic.Basic.TheVariants.{Atomic}
use Rattle.algebra.specs.Basics.{seq_of, join_of, star_of}
use Rattle.algebra.specs.HeldPaths.{Held, with_path}
use Rattle.core_program.specs.Core.{Program, Class, Method, Expr, Exprs, NotE, NegE, BinaryE, AndE, OrE, GetE, CallE, NewE, no_exprs, and_expr}
use Rattle.core_program.specs.Core.{Stmt, Stmts, EmptyS, BlockS, LocalS, SetVarS, SetFieldS, DoS, IfS, WhileS, SyncS, ReturnS, PrintS, StartS, no_stmts, and_stmt}
use Rattle.core_program.specs.Locks.{leads_on, get_path, path_of}
use Rattle.rules.specs.Effect.{Assignment, access_of, call_of, sync_effect, expr_effect, effect}
use Rattle.state.specs.declared.value.Address.{Address}
use Rattle.state.specs.declared.value.Value.{Value}
use Rattle.state.specs.Values.{address_eq}
use Rattle.state.specs.Work as W
use Rattle.state.specs.Work.{Action, Item, Ex, St, Act, Next}
use Rattle.semantics.specs.Step.{has_result}
use Rattle.reduction.specs.Phases.{Phase, PassesPart, freed}
use Rattle.reduction.specs.Leads.{Env, Memory, Sound, Paths, LeadsTo, MayLeadTo, with_slot, top_path, under_path, taken_paths, dropped_paths}

-- What a typed body is like, as far as it is needed.

-- how many arguments a method takes, and how many a `new` of a class
abbrev pub arity_of : Option Method → ℕ
arity_of None = 0
arity_of (Some m) = length m.params

-- how many final fields a class has, which is how many arguments `new` takes; 0 where there is none
abbrev pub final_field_count : Option Class → ℕ
final_field_count None = 0
final_field_count (Some c) = length c.finals

-- how many arguments there are
abbrev pub argument_count : Exprs → ℕ
argument_count no_exprs = 0
argument_count (and_expr e es) = 1 + argument_count es

module _ (P : Program) where
  -- whether an expression leaves an operand: a call of a method without a result doesn't
  abbrev pub valued : Expr → Bool
  valued (CallE e m args) = has_result (slice_get P.methods m)
  valued _ = true

  abbrev mutual
    -- each part of an expression leaves an operand, a call has as many arguments as parameters, a `new` as many as final fields,
    -- and the second part of `&&` and `||` has no path
    pub TidyE : Expr → Type 0
    TidyE (NotE e) = (valued e ≡ true) × TidyE e
    TidyE (NegE e) = (valued e ≡ true) × TidyE e
    TidyE (BinaryE op a b) = (valued a ≡ true) × TidyE a × (valued b ≡ true) × TidyE b
    TidyE (AndE a b) = (valued a ≡ true) × TidyE a × (valued b ≡ true) × TidyE b × (path_of P b ≡ None)
    TidyE (OrE a b) = (valued a ≡ true) × TidyE a × (valued b ≡ true) × TidyE b × (path_of P b ≡ None)
    TidyE (GetE e f) = (valued e ≡ true) × TidyE e
    TidyE (CallE e m args) = (valued e ≡ true) × TidyE e × TidyEach args × (arity_of (slice_get P.methods m) ≡ argument_count args)
    TidyE (NewE c args) = TidyEach args × (final_field_count (slice_get P.classes c) ≡ argument_count args)
    TidyE _ = Unit {0}

    -- the same of arguments, each of which leaves an operand
    pub TidyEach : Exprs → Type 0
    TidyEach no_exprs = Unit {0}
    TidyEach (and_expr e es) = (valued e ≡ true) × TidyE e × TidyEach es

-- whether a slot is stored by some declaration or assignment of a statement
abbrev mutual
  -- whether a statement stores the slot, in itself or in a statement inside it
  pub stores : Stmt → ℕ → Bool
  stores (BlockS ss) x = stores_each ss x
  stores (LocalS y is_final ty e) x = y == x
  stores (SetVarS y e) x = y == x
  stores (IfS c s t) x = stores s x || stores t x
  stores (WhileS c s) x = stores s x
  stores (SyncS p s) x = stores s x
  stores _ x = false

  -- whether one of the statements of a block stores it
  pub stores_each : Stmts → ℕ → Bool
  stores_each no_stmts x = false
  stores_each (and_stmt s ss) x = stores s x || stores_each ss x

-- a final local that is declared isn't stored again in the rest of its block
abbrev pub Apart : Stmt → Stmts → Type 0
Apart (LocalS x true ty e) ss = stores_each ss x ≡ false
Apart _ ss = Unit {0}

module _ (P : Program) where
  abbrev mutual
    -- the expressions of a statement are tidy; a lock's path goes through at most two final fields of class type, and its root isn't stored while it is held
    pub TidyS : Stmt → Type 0
    TidyS EmptyS = Unit {0}
    TidyS (BlockS ss) = TidyBlock ss
    TidyS (LocalS x is_final ty e) = (valued P e ≡ true) × TidyE P e
    TidyS (SetVarS x e) = (valued P e ≡ true) × TidyE P e
    TidyS (SetFieldS e f g) = (valued P e ≡ true) × TidyE P e × (valued P g ≡ true) × TidyE P g
    TidyS (DoS e drops) = (drops ≡ valued P e) × TidyE P e
    TidyS (IfS c s t) = (valued P c ≡ true) × TidyE P c × TidyS s × TidyS t
    TidyS (WhileS c s) = (valued P c ≡ true) × TidyE P c × TidyS s
    TidyS (SyncS p s) = (list_all (λ f. leads_on (slice_get P.fields f)) p.fields ≡ true) × (length p.fields ≤ most_fields) × (stores s p.root ≡ false) × TidyS s
    TidyS (ReturnS None) = Unit {0}
    TidyS (ReturnS (Some e)) = (valued P e ≡ true) × TidyE P e
    TidyS (PrintS e) = (valued P e ≡ true) × TidyE P e
    TidyS (StartS e) = (valued P e ≡ true) × TidyE P e

    -- the same of the statements of a block, of which none stores a final local that one before it declares
    pub TidyBlock : Stmts → Type 0
    TidyBlock no_stmts = Unit {0}
    TidyBlock (and_stmt s ss) = TidyS s × Apart s ss × TidyBlock ss

-- no path of the set begins at a slot that the statement stores
pub record Fresh (H : Held) (s : Stmt) : Type 0 where
  pub at : (q : PathData) → H q ≡ true → stores s q.root ≡ false

-- the same of the statements of a block
pub record FreshEach (H : Held) (ss : Stmts) : Type 0 where
  pub at : (q : PathData) → H q ≡ true → stores_each ss q.root ≡ false

-- What a list of work has still to release.

-- whether a release of this address stands in the list
abbrev pub has_release : Address → List Item → Bool
has_release a [] = false
has_release a (Act (W.Release b) ∷ more) = address_eq a b || has_release a more
has_release a (_ ∷ more) = has_release a more

-- how many do
abbrev pub count_release : Address → List Item → ℕ
count_release a [] = 0
count_release a (Act (W.Release b) ∷ more) = if address_eq a b then 1 + count_release a more else count_release a more
count_release a (_ ∷ more) = count_release a more

-- the phase in which a return is reached where it first gives back the locks whose releases stand in the list; `outer` tells which are held further out
abbrev pub return_phase : (outer : Address → Bool) → List Item → Phase → Phase
return_phase outer [] phase = phase
return_phase outer (Act (W.Release a) ∷ more) phase = return_phase outer more (freed (has_release a more || outer a) phase)
return_phase outer (_ ∷ more) phase = return_phase outer more phase

-- what a statement may do to the slots, in a memory: it changes only those that it stores; a declared final local has what the path of its value leads to
abbrev pub LocalAgrees : Program → Memory → Stmt → (env later : Env) → Type 0
LocalAgrees P h (LocalS x true ty e) env later = MayLeadTo P h env (path_of P e) (later x)
LocalAgrees P h _ env later = Unit {0}

-- what a statement does to the slots where it goes on: it changes only those that it stores, and a declared final local gets what the path of its
-- value leads to
pub record SlotsAgree (P : Program) (h : Memory) (s : Stmt) (env later : Env) : Type 0 where
  pub kept : (y : ℕ) → stores s y ≡ false → later y ≡ env y
  pub local : LocalAgrees P h s env later

-- the paths of the operands after an expression, and after a call
abbrev pub pushed : Program → Expr → Paths → Paths
pushed P e os = if valued P e then path_of P e ∷ os else os

-- what the caller's operands get more when method m returns: one value, which no path leads to, or nothing
abbrev pub awaited : Program → ℕ → Paths
awaited P m = if has_result (slice_get P.methods m) then None ∷ [] else []

-- some set of held paths of which the fact holds: each leads to an object whose release stands in the list, or that is held further out
pub record At (P : Program) (h : Memory) (outer : Address → Bool) (env : Env) (more : List Item) (C : Held → Type 0) : Type 0 where
  pub set : Held
  pub sound : Sound P h env set (λ a. has_release a more || outer a)
  pub rest : C set

-- in a program with its relevant paths and an assignment, and in a memory; `outer` tells which locks are held by frames further out,
-- and K which phases the frames further out fit
module _ (P : Program) (rel : ℕ → List PathData) (A : Assignment) (h : Memory) (outer : Address → Bool) (K : Phase → Type 0) where
  -- an action fits, where what stands after it fits as G tells: for slots, a phase and the operands' paths.
  -- What will be stored is asked for every value that may come.
  abbrev pub FitsAct : Action → List Item → (Env → Phase → Paths → Type 0) → Env → Phase → Paths → Type 0
  FitsAct (W.Push v) more G env phase os = G env phase (None ∷ os)
  FitsAct (W.Load x) more G env phase os = (o : Option PathData) × LeadsTo P h env o (env x) × G env phase (o ∷ os)
  FitsAct (W.Store x) more G env phase os = (v : Value) → MayLeadTo P h env (top_path os) v → G (with_slot env x v) phase []
  FitsAct W.Drop more G env phase os = G env phase (under_path os)
  FitsAct (W.Unary op) more G env phase os = G env phase (None ∷ under_path os)
  FitsAct (W.Binary op) more G env phase os = G env phase (None ∷ under_path (under_path os))
  FitsAct (W.AndThen e) more G env phase os = At P h outer env more (λ H. (valued P e ≡ true) × TidyE P e × (path_of P e ≡ None) × PassesPart phase (expr_effect P rel A e H) (λ later. G env later (None ∷ under_path os)))
  FitsAct (W.OrElse e) more G env phase os = At P h outer env more (λ H. (valued P e ≡ true) × TidyE P e × (path_of P e ≡ None) × PassesPart phase (expr_effect P rel A e H) (λ later. G env later (None ∷ under_path os)))
  FitsAct (W.Choose s t) more G env phase os = At P h outer env more (λ H. Fresh H s × Fresh H t × TidyS P s × TidyS P t
      × PassesPart phase (join_of (effect P rel A s H) (effect P rel A t H)) (λ next. (later : Env) → ((y : ℕ) → (stores s y || stores t y) ≡ false → later y ≡ env y) → G later next []))
  FitsAct (W.Loop c s) more G env phase os = At P h outer env more (λ H. Fresh H s × (valued P c ≡ true) × TidyE P c × TidyS P s
      × PassesPart phase (star_of (seq_of (effect P rel A s H) (expr_effect P rel A c H))) (λ next. (later : Env) → ((y : ℕ) → stores s y ≡ false → later y ≡ env y) → G later next []))
  FitsAct (W.Get f) more G env phase os = At P h outer env more (λ H. PassesPart phase (access_of P false f (top_path os) H) (λ next. G env next (get_path P f (top_path os) ∷ under_path os)))
  FitsAct (W.Put f) more G env phase os = At P h outer env more (λ H. PassesPart phase (access_of P true f (top_path (under_path os)) H) (λ next. G env next (under_path (under_path os))))
  FitsAct (W.New c) more G env phase os = G env phase (None ∷ dropped_paths (final_field_count (slice_get P.classes c)) os)
  FitsAct (W.Call m) more G env phase os = At P h outer env more (λ H.
      PassesPart phase (call_of P rel A m (top_path (dropped_paths (arity_of (slice_get P.methods m)) os)) (taken_paths (arity_of (slice_get P.methods m)) [] os) H)
      (λ next. G env next (awaited P m ++ under_path (dropped_paths (arity_of (slice_get P.methods m)) os))))
  FitsAct (W.Acquire s) more G env phase os = At P h outer env more (λ H. (p : PathData) × (top_path os ≡ Some p) × Fresh H s × (stores s p.root ≡ false) × TidyS P s
      × PassesPart phase (sync_effect (H p) (effect P rel A s H) (effect P rel A s (with_path p H))) (λ next. (later : Env) → ((y : ℕ) → stores s y ≡ false → later y ≡ env y) → G later next []))
  FitsAct (W.Release a) more G env phase os = G env (freed (has_release a more || outer a) phase) []
  FitsAct W.Ret more G env phase os = K (return_phase outer more phase)
  FitsAct W.Print more G env phase os = PassesPart phase Atomic (λ next. G env next (under_path os))
  FitsAct W.Start more G env phase os = PassesPart phase Atomic (λ next. G env next (under_path os))

  -- the same of an item; an expression and a statement have their effect at some set
  abbrev pub FitsItem : Item → List Item → (Env → Phase → Paths → Type 0) → Env → Phase → Paths → Type 0
  FitsItem (Ex e) more G env phase os = At P h outer env more (λ H. TidyE P e × PassesPart phase (expr_effect P rel A e H) (λ next. G env next (pushed P e os)))
  FitsItem (St s) more G env phase os = At P h outer env more (λ H. Fresh H s × TidyS P s × PassesPart phase (effect P rel A s H) (λ next. (later : Env) → SlotsAgree P h s env later → G later next []))
  FitsItem (Act a) more G env phase os = FitsAct a more G env phase os

  -- a list fits; at its end the frames further out do
  abbrev pub FitsPhase : List Item → Env → Phase → Paths → Type 0
  FitsPhase [] env phase os = K phase
  FitsPhase (i ∷ more) env phase os = FitsItem i more (FitsPhase more) env phase os

  -- a next action fits, with what stands after it
  abbrev pub FitsNext : Next → Env → Phase → Paths → Type 0
  FitsNext next env phase os = FitsAct next.0 next.1 (FitsPhase next.1) env phase os

  -- the same where there is one
  abbrev pub Opens : Option Next → Env → Phase → Paths → Type 0
  Opens None env phase os = Unit {0}
  Opens (Some next) env phase os = FitsNext next env phase os
