-- Systems of threads: what a thread's step does in a state, what is a thread's own there, and their runs.
use Rattle.std.specs.Prelude.{◌≡◌, ℕ, ◌+◌, Bool, true, ◌==◌, List, [], ◌∷◌, Option, Some, None, if◌then◌else◌}
use Rattle.state.specs.declared.value.StepKind.{StepKind}
use Rattle.semantics.specs.Units.{Entry, units, in_order, schedule_of}

-- a step: its kind, and the state after it
pub record StepTo (S : Type 0) : Type 0 where
  pub kind : StepKind
  pub to : S

-- a system with states S, whose threads have numbers; what is a thread's own is of type O
pub record System (S O : Type 0) : Type 0 where
  -- the step of a thread, where it has one
  pub step : S → ℕ → Option (StepTo S)
  -- what is a thread's own in a state
  pub own : S → ℕ → O
  -- whether a thread with this for its own is inside a block that means to be atomic
  pub inside : O → Bool
  -- whether there is a thread of this number; one that isn't there may be started
  pub there : S → ℕ → Bool

-- a thread's step in a state is of this kind and leads to that state
abbrev pub Steps : {S O : Type 0} → System S O → S → ℕ → StepKind → S → Type 0
Steps M q t k r = M.step q t ≡ Some (record { kind = k; to = r })

-- there is a thread of this number
abbrev pub IsThreadOfSystem : {S O : Type 0} → System S O → S → ℕ → Type 0
IsThreadOfSystem M q t = M.there q t ≡ true

-- what comes of the state after a step, where there is one
abbrev pub run_then : {S : Type 0} → Option (StepTo S) → (S → Option S) → Option S
run_then None later = None
run_then (Some x) later = later x.to

-- the state after the threads of a schedule stepped one after the other; none where one of them can't
abbrev pub system_run_from : {S O : Type 0} → System S O → S → List ℕ → Option S
system_run_from M q [] = Some q
system_run_from M q (t ∷ s) = run_then (M.step q t) (λ next. system_run_from M next s)

-- the entry of a step, before the entries from the state after it
abbrev pub system_entry_then : {S O : Type 0} → System S O → (place t : ℕ) → Option (StepTo S) → (S → List Entry) → List Entry
system_entry_then M place t None later = []
system_entry_then M place t (Some x) later = record { place = place; thread = t; kind = x.kind; inside = M.inside (M.own x.to t) } ∷ later x.to

-- the entries of a schedule from a state, up to the first that can't step; the first has this place
abbrev pub system_entries_from : {S O : Type 0} → System S O → S → ℕ → List ℕ → List Entry
system_entries_from M q place [] = []
system_entries_from M q place (t ∷ s) = system_entry_then M place t (M.step q t) (λ next. system_entries_from M next (place + 1) s)

-- the written order of a schedule from a state: its units in ascending order of their commit places
abbrev pub written_from : {S O : Type 0} → System S O → S → List ℕ → List ℕ
written_from M q s = schedule_of (in_order (units (system_entries_from M q 0 s)))

-- a thread's own after an entry of thread u, where that is its own, before that after later entries
abbrev pub system_owns_then : {S O : Type 0} → System S O → (t u : ℕ) → Option (StepTo S) → (S → List O) → List O
system_owns_then M t u None later = []
system_owns_then M t u (Some x) later = if u == t then M.own x.to u ∷ later x.to else later x.to

-- a thread's own after each of its entries in a schedule
abbrev pub owns_from : {S O : Type 0} → System S O → S → ℕ → List ℕ → List O
owns_from M q t [] = []
owns_from M q t (u ∷ s) = system_owns_then M t u (M.step q u) (λ next. owns_from M next t s)
