-- When what a frame has still to do is walked: each part stands at some set of held paths and under some level; each path of the set leads to a
-- held object, each held lock has at most that level, and the walk from there comes to contexts only, and to no bad `synchronized`.
use Rattle.std.specs.Prelude.{◌≡◌, ◌≤◌, ◌<◌, ℕ, ◌+◌, Bool, true, false, ◌||◌, max, List, [], ◌∷◌, ◌++◌, Option, Some, None, Contains, slice_get}
use Rattle.paths.specs.Paths.{PathData}
use Rattle.algebra.specs.HeldPaths.{Held, with_path}
use Rattle.core_program.specs.declared.types.CoreType.{CoreType}
use Rattle.core_program.specs.Core.{Program, Method}
use Rattle.core_program.specs.Locks.{get_path, path_of}
use Rattle.state.specs.declared.value.Address.{Address}
use Rattle.state.specs.declared.value.Value.{Value}
use Rattle.state.specs.Memory.{Object, Hold}
use Rattle.state.specs.Work as W
use Rattle.state.specs.Work.{Action, Item, Ex, St, Act, Next}
use Rattle.state.specs.States.{Frame, Thread, Ready, Running, Done, Faulted}
use Rattle.reduction.specs.Leads.{Env, env_of, machine_memory, Sound, Paths, LeadsTo, MayLeadTo, with_slot, top_path, under_path, taken_paths, dropped_paths}
use Rattle.reduction.specs.Fits.{SlotsAgree, Fresh, TidyE, TidyS, valued, stores, has_release, arity_of, final_field_count, pushed, awaited}
use Rattle.reduction.specs.Safe.{LeadEach, Owns, releases_in_work}
use Rattle.levels.specs.SlotTypes.{slot_types}
use Rattle.levels.specs.Walks.{LevelVisit, Comes, Bad, lock_class, call_visits, expr_visits, sync_visits, visits}
use Rattle.levels.specs.Contexts.{MayRun, Context}

-- there is an object, and its class has at most this level
abbrev pub IsUnder : (ℕ → ℕ) → (Address → Option Object) → ℕ → Address → Type 0
IsUnder level objects under a = (o : Object) × (objects a ≡ Some o) × (level o.class ≤ under)

-- the set leads to held objects, and no held object is above the level
pub record Stands (P : Program) (level : ℕ → ℕ) (objects : Address → Option Object) (env : Env) (H : Held) (under : ℕ) (held : Address → Bool) : Type 0 where
  pub sound : Sound P (machine_memory P objects) env H held
  pub high : (a : Address) → held a ≡ true → IsUnder level objects under a

-- some set and level at which this list of work stands, and of which the fact holds; `outer` tells which locks are held further out
pub record At (P : Program) (level : ℕ → ℕ) (objects : Address → Option Object) (outer : Address → Bool) (env : Env) (more : List Item) (C : Held → ℕ → Type 0) : Type 0 where
  pub set : Held
  pub under : ℕ
  pub stands : Stands P level objects env set under (λ a. has_release a more || outer a)
  pub rest : C set under

-- the calls of a walk are contexts, and none of its `synchronized` is bad
pub record Fine (P : Program) (rel : ℕ → List PathData) (level : ℕ → ℕ) (vs : List LevelVisit) : Type 0 where
  pub comes : (m : ℕ) (known : ℕ → Held) (u : ℕ) → Contains vs (Comes m known u) → (k : ℕ) → MayRun P k m → Context P rel level k (known k) u
  pub none_bad : (place c u : ℕ) → Contains vs (Bad place c u) → ⊥

-- in a program with its relevant paths and levels, for slots of these types, and with these objects
module _ (P : Program) (rel : ℕ → List PathData) (level : ℕ → ℕ) (slots : List CoreType) (objects : Address → Option Object) (outer : Address → Bool) where
  -- an action is walked, where what stands after it is as G tells, for slots and for the operands' paths
  abbrev pub RankedAct : Action → List Item → (Env → Paths → Type 0) → Env → Paths → Type 0
  RankedAct (W.Push v) more G env os = G env (None ∷ os)
  RankedAct (W.Load x) more G env os = (o : Option PathData) × LeadsTo P (machine_memory P objects) env o (env x) × G env (o ∷ os)
  RankedAct (W.Store x) more G env os = (v : Value) → MayLeadTo P (machine_memory P objects) env (top_path os) v → G (with_slot env x v) []
  RankedAct W.Drop more G env os = G env (under_path os)
  RankedAct (W.Unary op) more G env os = G env (None ∷ under_path os)
  RankedAct (W.Binary op) more G env os = G env (None ∷ under_path (under_path os))
  RankedAct (W.AndThen e) more G env os = At P level objects outer env more (λ H under. (valued P e ≡ true) × TidyE P e × (path_of P e ≡ None) × Fine P rel level (expr_visits P rel e H under)) × G env (None ∷ under_path os)
  RankedAct (W.OrElse e) more G env os = At P level objects outer env more (λ H under. (valued P e ≡ true) × TidyE P e × (path_of P e ≡ None) × Fine P rel level (expr_visits P rel e H under)) × G env (None ∷ under_path os)
  RankedAct (W.Choose s t) more G env os = At P level objects outer env more (λ H under. Fresh H s × Fresh H t × TidyS P s × TidyS P t
      × ((n : ℕ) × Fine P rel level (visits P rel level slots s n H under)) × ((n : ℕ) × Fine P rel level (visits P rel level slots t n H under)))
      × ((later : Env) → ((y : ℕ) → (stores s y || stores t y) ≡ false → later y ≡ env y) → G later [])
  RankedAct (W.Loop c s) more G env os = At P level objects outer env more (λ H under. Fresh H s × (valued P c ≡ true) × TidyE P c × TidyS P s
      × Fine P rel level (expr_visits P rel c H under) × ((n : ℕ) × Fine P rel level (visits P rel level slots s n H under)))
      × ((later : Env) → ((y : ℕ) → stores s y ≡ false → later y ≡ env y) → G later [])
  RankedAct (W.Get f) more G env os = G env (get_path P f (top_path os) ∷ under_path os)
  RankedAct (W.Put f) more G env os = G env (under_path (under_path os))
  RankedAct (W.New c) more G env os = G env (None ∷ dropped_paths (final_field_count (slice_get P.classes c)) os)
  RankedAct (W.Call m) more G env os = At P level objects outer env more (λ H under.
      Fine P rel level (call_visits P rel m (top_path (dropped_paths (arity_of (slice_get P.methods m)) os)) (taken_paths (arity_of (slice_get P.methods m)) [] os) H under))
      × G env (awaited P m ++ under_path (dropped_paths (arity_of (slice_get P.methods m)) os))
  RankedAct (W.Acquire s) more G env os = At P level objects outer env more (λ H under. (p : PathData) × (top_path os ≡ Some p) × Fresh H s × (stores s p.root ≡ false) × TidyS P s
      × ((n : ℕ) × Fine P rel level (sync_visits P rel level slots (H p) n (lock_class P slots p) under (visits P rel level slots s (n + 1) H under)
      (visits P rel level slots s (n + 1) (with_path p H) (max under (level (lock_class P slots p)))))))
      × ((later : Env) → ((y : ℕ) → stores s y ≡ false → later y ≡ env y) → G later [])
  RankedAct (W.Release a) more G env os = G env []
  RankedAct W.Ret more G env os = Unit {0}
  RankedAct W.Print more G env os = G env (under_path os)
  RankedAct W.Start more G env os = G env (under_path os)

  -- the same of an item
  abbrev pub RankedItem : Item → List Item → (Env → Paths → Type 0) → Env → Paths → Type 0
  RankedItem (Ex e) more G env os = At P level objects outer env more (λ H under. TidyE P e × Fine P rel level (expr_visits P rel e H under)) × G env (pushed P e os)
  RankedItem (St s) more G env os = At P level objects outer env more (λ H under. Fresh H s × TidyS P s × ((n : ℕ) × Fine P rel level (visits P rel level slots s n H under)))
      × ((later : Env) → SlotsAgree P (machine_memory P objects) s env later → G later [])
  RankedItem (Act a) more G env os = RankedAct a more G env os

  -- a list of work is walked
  abbrev pub Ranked : List Item → Env → Paths → Type 0
  Ranked [] env os = Unit {0}
  Ranked (i ∷ more) env os = RankedItem i more (Ranked more) env os

  -- a next action is walked, with what stands after it
  abbrev pub RankedNext : Next → Env → Paths → Type 0
  RankedNext next env os = RankedAct next.0 next.1 (Ranked next.1) env os

  -- the same where there is one
  abbrev pub RankedOpens : Option Next → Env → Paths → Type 0
  RankedOpens None env os = Unit {0}
  RankedOpens (Some next) env os = RankedNext next env os

-- Frames and threads.

module _ (P : Program) (rel : ℕ → List PathData) (level : ℕ → ℕ) where
  -- a frame: paths are known that lead to its operands, after those that a call will bring
  pub record FrameRanked (objects : Address → Option Object) (f : Frame) (outer : Address → Bool) (coming : Paths) : Type 0 where
    pub method : Method
    pub is : slice_get P.methods f.method ≡ Some method
    pub paths : Paths
    pub leads : LeadEach P (machine_memory P objects) (env_of f.slots) paths f.operands
    pub ranked : Ranked P rel level (slot_types method) objects outer f.work (env_of f.slots) (coming ++ paths)

  -- frames, the innermost first
  abbrev pub FramesRanked : (Address → Option Object) → List Frame → Paths → Type 0
  FramesRanked objects [] coming = Unit {0}
  FramesRanked objects (f ∷ fs) coming = FrameRanked objects f (releases_in_work fs) coming × FramesRanked objects fs (awaited P f.method)

  -- a thread: its frames are walked, and it holds each lock as often as they have still to release it
  abbrev pub RankedThread : (Address → Option Object) → (Address → Option Hold) → ℕ → Option Thread → Type 0
  RankedThread objects locks t None = Owns t [] locks
  RankedThread objects locks t (Some (Ready a m)) = Owns t [] locks × Context P rel level m (λ q. false) 0
  RankedThread objects locks t (Some (Running fs)) = FramesRanked objects fs [] × Owns t fs locks
  RankedThread objects locks t (Some Done) = Owns t [] locks
  RankedThread objects locks t (Some (Faulted why fs)) = Owns t fs locks

-- a held lock is held at least once
abbrev pub AreCounted : (Address → Option Hold) → Type 0
AreCounted locks = (a : Address) (hold : Hold) → locks a ≡ Some hold → 0 < hold.count
