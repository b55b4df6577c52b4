-- One thread alone: where its steps lead to.
use Rattle.std.proofs.Common.{◌≡◌, ℕ, zero, suc, ◌+◌, ◌<◌, ◌≤◌, List, ◌∷◌, Some, None}
use Rattle.std.specs.Prelude.{Option, length}
use Rattle.std.specs.FinMap as M
use Rattle.core_program.specs.Core.{Program}
use Rattle.state.specs.declared.value.Address.{Address}
use Rattle.state.specs.declared.value.Value.{Value}
use Rattle.state.specs.Memory.{Hold, made_by}
use Rattle.state.specs.Work.{Item}
use Rattle.state.specs.States.{Frame, Thread, Running, StateOf}
use Rattle.semantics.specs.Step.{Outcome, Moves, Absent, IsDone, HadFaulted, Waits, changed, seen_by, turn}
use Rattle.semantics.specs.Run.{frames_of}
use Rattle.replay.specs.Plain.{NoFrame, Plain}
use Rattle.replay.specs.Answers.{Answer, Gives, Fails, Blocked, Short, Deep, then_do}
use Rattle.replay.specs.Evaluation.{most_number, most_depth}

-- a state, and beside it a thread; the thread's entry in the state is an old one, and nothing looks at it
pub record LocalOf (F : Type 0) : Type 0 where
  pub plain : StateOf F
  pub thread : Thread

abbrev pub Local : Type 0
Local = LocalOf NoFrame

-- where an outcome leads to
abbrev pub gone : {F : Type 0} → StateOf F → Outcome → Option (LocalOf F)
gone q (Moves move) = Some (record { plain = changed move.change q; thread = move.thread })
gone q Absent = None
gone q IsDone = None
gone q (HadFaulted kind) = None
gone q (Waits a holder) = None

-- one step of the thread
abbrev pub alone : {F : Type 0} → Program → ℕ → LocalOf F → Option (LocalOf F)
alone P t l = gone l.plain (turn P (seen_by t l.plain) t (Some l.thread))

-- so many frames over the base, the lowest of them of this method
pub data Own (m : ℕ) (base : List Frame) : ℕ → List Frame → Type 0 where
  bottom : (f : Frame) → f.method ≡ m → Own m base 1 (f ∷ base)
  upon : (f : Frame) (c : ℕ) (frames : List Frame) → Own m base c frames → Own m base (suc c) (f ∷ frames)

-- the thread has such frames, and not more than 100
pub record Above (m : ℕ) (base : List Frame) (x : Thread) : Type 0 where
  pub count : ℕ
  pub few : count ≤ most_depth
  pub own : Own m base count (frames_of x)

-- The thread alone comes to a goal, or is stuck in the call, or is still in the call after n steps.
pub data Comes (P : Program) (t m : ℕ) (base : List Frame) (Goal : Local → Type 0) : ℕ → Local → Type 0 where
  there : {n : ℕ} {l : Local} → Goal l → Comes P t m base Goal n l
  still : {l : Local} → Above m base l.thread → Comes P t m base Goal zero l
  stuck : {n : ℕ} {l : Local} → Above m base l.thread → alone P t l ≡ None → Comes P t m base Goal n l
  goes : {n : ℕ} {l : Local} (mid : Local) → Above m base l.thread → alone P t l ≡ Some mid → Comes P t m base Goal n mid → Comes P t m base Goal (suc n) l

module _ (P : Program) (t m : ℕ) (base : List Frame) (Goal : Local → Type 0) where
  -- the same with one step less
  pub weak : (n : ℕ) (l : Local) → Comes P t m base Goal (suc n) l → Comes P t m base Goal n l
  weak n l (there g) = there g
  weak n l (stuck above e) = stuck above e
  weak zero l (goes mid above e rest) = still above
  weak (suc n) l (goes mid above e rest) = goes mid above e (weak n mid rest)

  -- and before one more step
  pub before : (n : ℕ) (l mid : Local) → Above m base l.thread → alone P t l ≡ Some mid → Comes P t m base Goal n mid → Comes P t m base Goal n l
  before zero l mid above e rest = still above
  before (suc n) l mid above e rest = goes mid above e (weak n mid rest)

-- a number is full: the thread's objects, the threads, or how often a lock is held
pub data IsFull (t : ℕ) (q : Plain) : Type 0 where
  objects : most_number < made_by t q.heap → IsFull t q
  threads : most_number < length q.threads → IsFull t q
  locks : (a : Address) (hold : Hold) → M.get q.locks a ≡ Some hold → most_number < hold.count + 1 → IsFull t q

-- of what is given, the last; of want of room the first, of too many calls the second, of the other answers nothing
abbrev pub After : {A : Type 0} → (Full TooDeep : Type 0) → (A → Plain → Type 0) → Answer A → Type 0
After S D K (Gives x q) = K x q
After S D K (Fails kind) = Unit {0}
After S D K (Blocked a holder) = Unit {0}
After S D K Short = S
After S D K Deep = D

-- from the end of two things to the end of the first
pub chain : {A B : Type 0} (S D : Type 0) (K : B → Plain → Type 0) (L : A → Plain → Type 0) (a : Answer A) (f : A → Plain → Answer B)
    → ((x : A) (q : Plain) → After S D K (f x q) → L x q) → After S D K (then_do a f) → After S D L a
chain S D K L (Gives x q) f h r = h x q r
chain S D K L (Fails kind) f h r = tt
chain S D K L (Blocked a holder) f h r = tt
chain S D K L Short f h r = r
chain S D K L Deep f h r = r

-- and what is said of what is given may change
pub after_map : {A : Type 0} (S D : Type 0) (K L : A → Plain → Type 0) (a : Answer A) → ((x : A) (q : Plain) → K x q → L x q) → After S D K a → After S D L a
after_map S D K L (Gives x q) h r = h x q r
after_map S D K L (Fails kind) h r = tt
after_map S D K L (Blocked a holder) h r = tt
after_map S D K L Short h r = r
after_map S D K L Deep h r = r

-- a frame with these operands and this work, over other frames
abbrev pub frame : ℕ → (slots operands : List Value) → List Item → Frame
frame m slots operands w = record { method = m; slots = slots; operands = operands; work = w }

abbrev pub at : (m : ℕ) (below : List Frame) (slots operands : List Value) → List Item → Plain → Local
at m below slots operands w q = record { plain = q; thread = Running (frame m slots operands w ∷ below) }
