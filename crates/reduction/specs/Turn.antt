-- What a thread's turn keeps, and what is asked of the program for it.
use Rattle.std.specs.Prelude.{◌≡◌, ℕ, Bool, true, false, ◌&&◌, ◌||◌, ◌==◌, List, [], Some, is_some, slice_get}
use Rattle.paths.specs.Paths.{PathData}
use Rattle.algebra.specs.declared.basic.Basic.TheVariants.{Atomic}
use Rattle.algebra.specs.HeldPaths.{Held, has_path}
use Rattle.core_program.specs.Core.{Program, Class, Method}
use Rattle.core_program.specs.Dispatch.{target_of}
use Rattle.rules.specs.Effect.{Assignment}
use Rattle.rules.specs.Rules.{IsSubset, AtMost, AreBodiesBelow, held_in, declared_bound}
use Rattle.state.specs.declared.value.Address.{Address}
use Rattle.semantics.specs.Step.{Change, Starts, Shared, Move, Outcome, Moves, Absent, IsDone, HadFaulted, Waits}
use Rattle.semantics.specs.Changes.{objects_after, locks_after}
use Rattle.semantics.specs.Units.{is_commit}
use Rattle.reduction.specs.Phases.{phase_of, allowed}
use Rattle.reduction.specs.Leads.{machine_memory, Grows}
use Rattle.reduction.specs.Fits.{TidyS, stores}
use Rattle.reduction.specs.Safe.{held_count, IsFree, IsSafeThread}

-- the method that runs for another leaves a result where that one does, requires the same locks, and is assigned no more at what it knows of the other's set
pub record RunsFor (P : Program) (rel : ℕ → List PathData) (A : Assignment) (m : ℕ) (method : Method) (n : ℕ) (running : Method) : Type 0 where
  pub result : is_some running.result ≡ is_some method.result
  pub locks : running.requires_ ≡ method.requires_
  pub below : (H : Held) → IsSubset H (has_path (rel m)) → IsSubset (has_path method.requires_) H → AtMost (A n (held_in (rel n) H)) (A m H)

-- what the proof uses of an accepted program
pub record Accepted (P : Program) (rel : ℕ → List PathData) (A : Assignment) : Type 0 where
  pub closed : AreBodiesBelow P rel A
  pub runs : (c m n : ℕ) (method running : Method) → target_of P c m ≡ Some n → slice_get P.methods m ≡ Some method → slice_get P.methods n ≡ Some running → RunsFor P rel A m method n running
  -- the required paths of a method are relevant
  pub known : (m : ℕ) (method : Method) → slice_get P.methods m ≡ Some method → IsSubset (has_path method.requires_) (has_path (rel m))
  -- an annotated method is at most atomic at each set that it may be called with
  pub bound : (m : ℕ) (method : Method) → slice_get P.methods m ≡ Some method → method.annotated ≡ true → (H : Held) →
      IsSubset H (has_path (rel m)) → IsSubset (has_path method.requires_) H → AtMost (A m H) Atomic
  -- one that requires no lock keeps its bound where no lock is held
  pub first : (m : ℕ) (method : Method) → slice_get P.methods m ≡ Some method → method.requires_ ≡ [] → AtMost (A m (λ q. false)) (declared_bound method.annotated)
  pub tidy : (m : ℕ) (method : Method) → slice_get P.methods m ≡ Some method → TidyS P method.body
  -- the root of a relevant path isn't stored
  pub rooted : (m : ℕ) (method : Method) → slice_get P.methods m ≡ Some method → (q : PathData) → has_path (rel m) q ≡ true → stores method.body q.root ≡ false
  pub run : (c : ℕ) (class : Class) (m : ℕ) → slice_get P.classes c ≡ Some class → class.run ≡ Some m → IsFree P m

-- a thread is started with a method that requires no lock
abbrev pub StartFine : Program → Change → Type 0
StartFine P (Starts a m) = IsFree P m
StartFine P _ = Unit {0}

module _ (P : Program) (rel : ℕ → List PathData) (A : Assignment) (see : Shared) (t : ℕ) where
  -- a step of a thread that stands inside or not, with its flag: the phase admits it, the thread is safe after it, final fields lead as before,
  -- the locks of other threads are as before
  pub record StepFine (inside flag : Bool) (move : Move) : Type 0 where
    pub kind : allowed (phase_of inside flag) move.kind ≡ true
    pub thread : IsSafeThread P rel A (machine_memory P (objects_after move.change see.object_at)) (locks_after move.change see.lock_at) t ((inside && flag) || is_commit move.kind) (Some move.thread)
    pub grows : Grows P (machine_memory P see.object_at) (machine_memory P (objects_after move.change see.object_at))
    pub others : (u : ℕ) → (u == t) ≡ false → (b : Address) → held_count u (locks_after move.change see.lock_at b) ≡ held_count u (see.lock_at b)
    pub started : StartFine P move.change

  -- an outcome; only a step owes anything
  abbrev pub Fine : (inside flag : Bool) → Outcome → Type 0
  Fine inside flag (Moves move) = StepFine inside flag move
  Fine inside flag Absent = Unit {0}
  Fine inside flag IsDone = Unit {0}
  Fine inside flag (HadFaulted why) = Unit {0}
  Fine inside flag (Waits a holder) = Unit {0}
