-- Runs of schedules, who stands inside an atomic call, and which schedules interrupt nobody.
use Rattle.std.specs.Prelude.{◌≡◌, ℕ, ◌+◌, Bool, true, false, ◌==◌, List, [], ◌∷◌, take, Option, Some, None, IsSome, option_and_then, position, count_by, slice_get, if◌then◌else◌}
use Rattle.std.specs.List.{list_any}
use Rattle.core_program.specs.Core.{Program, Method}
use Rattle.state.specs.States.{Frame, Thread, Ready, Running, Done, Faulted, State, initial}
use Rattle.semantics.specs.Step.{Outcome, outcome, step}

-- the state after the threads of a schedule stepped one after the other; none where one of them can't
abbrev pub run_from : Program → State → List ℕ → Option State
run_from P q [] = Some q
run_from P q (t ∷ s) = option_and_then (λ next. run_from P next s) (step P q t)

-- the state that a schedule runs to from the start
abbrev pub run : Program → List ℕ → Option State
run P s = run_from P (initial P) s

-- the schedule runs: each entry steps
abbrev pub Runs : Program → List ℕ → Type 0
Runs P s = IsSome (run P s)

-- the entry at this place, counted from 0, is the first that can't step; its turn comes to this outcome
pub record StopsAt (P : Program) (s : List ℕ) (place : ℕ) (why : Outcome) : Type 0 where
  pub before : State
  pub ran : run P (take place s) ≡ Some before
  pub thread : ℕ
  pub entry : slice_get s place ≡ Some thread
  pub no_step : step P before thread ≡ None
  pub outcome : outcome P before thread ≡ why

-- whether a method is annotated `atomic`
abbrev pub is_annotated : Option Method → Bool
is_annotated None = false
is_annotated (Some m) = m.annotated

-- the frames of a thread; a faulted one keeps them
abbrev pub frames_of : Thread → List Frame
frames_of (Ready a m) = []
frames_of (Running frames) = frames
frames_of Done = []
frames_of (Faulted kind frames) = frames

-- whether some frame of a thread belongs to an annotated method
abbrev pub is_inside : Program → Thread → Bool
is_inside P thread = list_any (λ f. is_annotated (slice_get P.methods f.method)) (frames_of thread)

-- the same of a thread that may be absent
abbrev pub is_inside_some : Program → Option Thread → Bool
is_inside_some P None = false
is_inside_some P (Some thread) = is_inside P thread

-- whether the thread of this number stands inside an atomic call
abbrev pub inside : Program → State → ℕ → Bool
inside P q t = is_inside_some P (slice_get q.threads t)

-- the least number of a thread that stands inside an atomic call
abbrev pub open_thread : Program → State → Option ℕ
open_thread P q = position (is_inside P) q.threads

-- the schedule runs, and an entry after which its thread stands inside is followed by the same thread's, or by none
pub record IsUninterrupted (P : Program) (s : List ℕ) : Type 0 where
  pub runs : Runs P s
  pub kept : (place t u : ℕ) (q : State) → slice_get s place ≡ Some t → slice_get s (place + 1) ≡ Some u →
      run P (take (place + 1) s) ≡ Some q → inside P q t ≡ true → u ≡ t

-- each number stands in both schedules equally often
abbrev pub IsRearrangement : List ℕ → List ℕ → Type 0
IsRearrangement s r = (t : ℕ) → count_by (λ u. u == t) s ≡ count_by (λ u. u == t) r

-- a thread's frames and status after an entry of thread u, where that is its own, before those after later entries
abbrev pub owns_then : (t u : ℕ) → (State → List (Option Thread)) → Option State → List (Option Thread)
owns_then t u later None = []
owns_then t u later (Some next) = if u == t then slice_get next.threads u ∷ later next else later next

-- a thread's frames and status after each of its entries in a schedule
abbrev pub own_states : Program → State → ℕ → List ℕ → List (Option Thread)
own_states P q t [] = []
own_states P q t (u ∷ s) = owns_then t u (λ next. own_states P next t s) (step P q u)
