-- The system in which each thread does what a log says of it.
use Rattle.std.specs.Prelude.{ℕ, Bool, true, false, not, ◌==◌, List, [], ◌∷◌, Option, Some, None, if◌then◌else◌}
use Rattle.state.specs.declared.value.StepKind.{StepKind}
use Rattle.state.specs.declared.value.StepKind.TheVariants.{Both, Other, Bare}
use Rattle.reduction.specs.Systems.{StepTo, System}
use Rattle.logs.specs.Events.{Event, Take, Give, Access, Start, Join, Stop, Begin, End}
use Rattle.logs.specs.Memory.{Absent, Present, Ended, AtLock, AtThread, Content, Lock, Value, Thread, Cells, content_put, Own, put_own, LogMemory}
use Rattle.logs.specs.Turns.{cell_of, Turn, turn_by_content, blocks_after}

-- what is said to guard a place: a lock, the one thread that uses it, or nothing
pub data Guard : Type 0 where
  ByLock : ℕ → Guard
  ByThread : ℕ → Guard
  Unguarded : Guard

-- whether a thread holds a lock
abbrev pub holds_in_log : ℕ → Content → Bool
holds_in_log t (Lock None) = false
holds_in_log t (Lock (Some h)) = h.by == t
holds_in_log t (Value v) = false
holds_in_log t (Thread p) = false

-- the kind of a thread's access: with its guard it moves both ways, without it is Bare; what nothing guards is Other
abbrev pub guarded_access_kind : Guard → Cells → ℕ → StepKind
guarded_access_kind (ByLock l) cells t = if holds_in_log t (cells (AtLock l)) then Both else Bare
guarded_access_kind (ByThread u) cells t = if u == t then Both else Bare
guarded_access_kind Unguarded cells t = Other

-- the kind of an event, where it is an access
abbrev pub kind_at : (ℕ → Guard) → Cells → ℕ → Event → StepKind
kind_at guard cells t (Take l) = Both
kind_at guard cells t (Give l) = Both
kind_at guard cells t (Access p seen left) = guarded_access_kind (guard p) cells t
kind_at guard cells t (Start u) = Both
kind_at guard cells t (Join u) = Both
kind_at guard cells t Stop = Both
kind_at guard cells t (Begin name) = Both
kind_at guard cells t End = Both

-- the memory after a thread's event, which leaves this in its cell and that for its own
abbrev pub moved_to : LogMemory → ℕ → Event → Content → Own → LogMemory
moved_to q t e c o = record { cells = content_put (cell_of t e) c q.cells; own = put_own t o q.own }

-- the step of an event, where it can happen and a block that ends is open
abbrev pub turned : LogMemory → ℕ → Event → List Event → Option ℕ → Option Turn → Option (StepTo LogMemory)
turned q t e es None x = None
turned q t e es (Some d) None = None
turned q t e es (Some d) (Some x) = Some (record { kind = x.kind; to = moved_to q t e x.content (record { depth = d; rest = es }) })

-- the step of the first of these events
abbrev pub first_step : (ℕ → Guard) → LogMemory → ℕ → List Event → Option (StepTo LogMemory)
first_step guard q t [] = None
first_step guard q t (e ∷ es) = turned q t e es (blocks_after e (q.own t).depth) (turn_by_content (kind_at guard q.cells t e) e t (q.cells (cell_of t e)))

-- a thread that is there, by what its cell holds, does the first of these events
abbrev pub step_at : (ℕ → Guard) → LogMemory → ℕ → Content → List Event → Option (StepTo LogMemory)
step_at guard q t (Lock o) es = None
step_at guard q t (Value v) es = None
step_at guard q t (Thread Absent) es = None
step_at guard q t (Thread Present) es = first_step guard q t es
step_at guard q t (Thread Ended) es = None

-- whether a thread is there or was, by what its cell holds
abbrev pub was_there : Content → Bool
was_there (Lock o) = false
was_there (Value v) = false
was_there (Thread Absent) = false
was_there (Thread Present) = true
was_there (Thread Ended) = true

-- whether a thread with this for its own is inside a block
abbrev pub is_within : Own → Bool
is_within o = not (o.depth == 0)

-- the system: each thread that is there does the next event that the log has of it, where that can happen
abbrev pub logs : (ℕ → Guard) → System LogMemory Own
logs guard = record {
  step = λ q t. step_at guard q t (q.cells (AtThread t)) (q.own t).rest;
  own = λ q t. q.own t;
  inside = is_within;
  there = λ q t. was_there (q.cells (AtThread t));
}
