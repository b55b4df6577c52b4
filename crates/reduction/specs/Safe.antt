-- Safe states.
use Rattle.std.specs.Prelude.{◌≡◌, ℕ, ◌+◌, Bool, false, ◌&&◌, ◌||◌, ◌==◌, List, [], ◌∷◌, ◌++◌, Option, Some, None, slice_get, if◌then◌else◌}
use Rattle.std.specs.List.{list_any}
use Rattle.std.specs.FinMap as map
use Rattle.paths.specs.Paths.{PathData}
use Rattle.core_program.specs.Core.{Program, Method}
use Rattle.rules.specs.Effect.{Assignment}
use Rattle.state.specs.declared.value.Address.{Address}
use Rattle.state.specs.declared.value.Value.{Value}
use Rattle.state.specs.declared.value.StepKind.{StepKind}
use Rattle.state.specs.Values.{top, under}
use Rattle.state.specs.Memory.{Hold}
use Rattle.state.specs.States.{Frame, Thread, Ready, Running, Done, Faulted, State}
use Rattle.semantics.specs.Run.{is_annotated, inside}
use Rattle.semantics.specs.Units.{is_commit}
use Rattle.reduction.specs.Phases.{Phase, Free, phase_of}
use Rattle.reduction.specs.Leads.{Env, env_of, Memory, machine_memory, Paths, LeadsTo}
use Rattle.reduction.specs.Fits.{FitsPhase, has_release, count_release, awaited}

-- the paths lead to the operands
abbrev pub LeadEach : Program → Memory → Env → Paths → List Value → Type 0
LeadEach P h env [] vs = Unit {0}
LeadEach P h env (o ∷ os) vs = LeadsTo P h env o (top vs) × LeadEach P h env os (under vs)

-- whether a release of this address stands in the work of some frame, and how many do
abbrev pub releases_in_work : List Frame → Address → Bool
releases_in_work [] a = false
releases_in_work (f ∷ fs) a = has_release a f.work || releases_in_work fs a

-- how often a release of this address stands in the work of these frames
abbrev pub count_frames : Address → List Frame → ℕ
count_frames a [] = 0
count_frames a (f ∷ fs) = count_release a f.work + count_frames a fs

-- whether some frame belongs to an annotated method
abbrev pub frames_inside : Program → List Frame → Bool
frames_inside P fs = list_any (λ f. is_annotated (slice_get P.methods f.method)) fs

-- the phase in which the frames further out go on: outside atomic calls again, where none of them is annotated
abbrev pub outer_phase : Program → List Frame → Phase → Phase
outer_phase P fs phase = if frames_inside P fs then phase else Free

-- how often a thread holds a lock
abbrev pub held_count : ℕ → Option Hold → ℕ
held_count t None = 0
held_count t (Some hold) = if hold.holder == t then hold.count else 0

-- a thread holds each lock as often as its frames have still to release it
abbrev pub Owns : ℕ → List Frame → (Address → Option Hold) → Type 0
Owns t fs locks = (a : Address) → held_count t (locks a) ≡ count_frames a fs

-- a frame fits: paths are known that lead to its operands, after those that a call will bring
pub record FrameFits (P : Program) (rel : ℕ → List PathData) (A : Assignment) (h : Memory) (f : Frame) (outer : Address → Bool) (K : Phase → Type 0) (coming : Paths) (phase : Phase) : Type 0 where
  pub paths : Paths
  pub lead : LeadEach P h (env_of f.slots) paths f.operands
  pub fits : FitsPhase P rel A h outer K f.work (env_of f.slots) phase (coming ++ paths)

-- a method requires no lock, so a thread may begin with it
abbrev pub IsFree : Program → ℕ → Type 0
IsFree P m = (method : Method) → slice_get P.methods m ≡ Some method → method.requires_ ≡ []

module _ (P : Program) (rel : ℕ → List PathData) (A : Assignment) where
  -- frames fit a phase, the innermost first: each goes on with those further out
  abbrev pub FramesFit : Memory → List Frame → Paths → Phase → Type 0
  FramesFit h [] coming phase = Unit {0}
  FramesFit h (f ∷ fs) coming phase = FrameFits P rel A h f (releases_in_work fs) (λ next. FramesFit h fs (awaited P f.method) (outer_phase P fs next)) coming phase

  -- the frames further out fit, after the call of this one has ended in this phase
  abbrev pub Further : Memory → Frame → List Frame → Phase → Type 0
  Further h f below phase = FramesFit h below (awaited P f.method) (outer_phase P below phase)

  -- a thread is safe, with a flag that tells whether the atomic call that it stands in made a Left or Other step: its frames fit the phase,
  -- and it holds each lock as often as they have still to release it
  abbrev pub IsSafeThread : Memory → (Address → Option Hold) → ℕ → Bool → Option Thread → Type 0
  IsSafeThread h locks t flag None = Owns t [] locks × (flag ≡ false)
  IsSafeThread h locks t flag (Some (Ready a m)) = Owns t [] locks × (flag ≡ false) × IsFree P m
  IsSafeThread h locks t flag (Some (Running fs)) = FramesFit h fs [] (phase_of (frames_inside P fs) flag) × Owns t fs locks
  IsSafeThread h locks t flag (Some Done) = Owns t [] locks
  IsSafeThread h locks t flag (Some (Faulted why fs)) = Owns t fs locks

  -- a state is safe, with such a flag for each thread
  pub record IsSafe (q : State) (flags : ℕ → Bool) : Type 0 where
    pub at : (t : ℕ) → IsSafeThread (machine_memory P (map.get q.heap)) (map.get q.locks) t (flags t) (slice_get q.threads t)

-- the flags after a step of a thread: its own is kept as long as it stands inside, and set by a Left or Other step
abbrev pub flags_after : Program → State → (ℕ → Bool) → ℕ → StepKind → ℕ → Bool
flags_after P q flags t kind u = if u == t then (inside P q t && flags t) || is_commit kind else flags u
