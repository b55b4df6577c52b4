-- Units of a run, their commit places, and the order in which they are written.
use Rattle.std.specs.Prelude.{ℕ, ◌+◌, Bool, true, false, not, ◌&&◌, ◌||◌, ◌==◌, nat_le, List, [], ◌∷◌, ◌++◌, map, if◌then◌else◌}
use Rattle.core_program.specs.Core.{Program}
use Rattle.state.specs.declared.value.StepKind.{StepKind}
use Rattle.state.specs.declared.value.StepKind.TheVariants.{Left, Other}
use Rattle.state.specs.States.{State, initial}
use Rattle.semantics.specs.Step.{Outcome, Moves, outcome, moved}
use Rattle.semantics.specs.Run.{inside}

-- an entry of a run: its place, its thread, the kind of its step, and whether its thread stands inside an atomic call after it
pub record Entry : Type 0 where
  pub place : ℕ
  pub thread : ℕ
  pub kind : StepKind
  pub inside : Bool

-- the entry of a step, before the entries from the state after it
abbrev pub entry_then : Program → State → (place t : ℕ) → Outcome → (State → List Entry) → List Entry
entry_then P q place t (Moves move) later =
    record { place = place; thread = t; kind = move.kind; inside = inside P (moved t move q) t } ∷ later (moved t move q)
entry_then P q place t _ later = []

-- the entries of a schedule from a state, up to the first that can't step; the first has this place
abbrev pub entries_from : Program → State → ℕ → List ℕ → List Entry
entries_from P q place [] = []
entries_from P q place (t ∷ s) = entry_then P q place t (outcome P q t) (λ next. entries_from P next (place + 1) s)

-- the entries of a schedule from the start
abbrev pub entries : Program → List ℕ → List Entry
entries P s = entries_from P (initial P) 0 s

-- whether an entry after which its thread stands inside is always followed by one of the same thread, or by none
abbrev pub are_kept : List Entry → Bool
are_kept [] = true
are_kept (e ∷ []) = true
are_kept (e ∷ f ∷ es) = (not e.inside || (f.thread == e.thread)) && are_kept (f ∷ es)

-- A unit is an outermost atomic call, or one step outside such calls: the list of its entries in order.

-- whether the unit is of this thread
abbrev pub is_of_thread : ℕ → List Entry → Bool
is_of_thread t [] = false
is_of_thread t (e ∷ u) = e.thread == t

-- the entry goes on with the first unit of its thread
abbrev pub added : Entry → List (List Entry) → List (List Entry)
added e [] = (e ∷ []) ∷ []
added e (u ∷ us) = if is_of_thread e.thread u then (e ∷ u) ∷ us else u ∷ added e us

-- the units of some entries: an entry after which its thread stands inside is of one unit with the thread's next entry
abbrev pub units : List Entry → List (List Entry)
units [] = []
units (e ∷ es) = if e.inside then added e (units es) else (e ∷ []) ∷ units es

-- the kinds of a unit's steps, in order
abbrev pub word_of : List Entry → List StepKind
word_of u = map (λ e. e.kind) u

-- whether a unit is an atomic call: its thread stands inside one after its first entry
abbrev pub is_atomic_call : List Entry → Bool
is_atomic_call [] = false
is_atomic_call (e ∷ u) = e.inside

-- whether a unit is whole: its thread doesn't stand inside after its last entry
abbrev pub is_whole : List Entry → Bool
is_whole [] = true
is_whole (e ∷ []) = not e.inside
is_whole (e ∷ f ∷ u) = is_whole (f ∷ u)

-- Left or Other
abbrev pub is_commit : StepKind → Bool
is_commit Left = true
is_commit Other = true
is_commit _ = false

-- the commit place of a unit: that of its first Left or Other step, and of its last step where it has none
abbrev pub commit_place : List Entry → ℕ
commit_place [] = 0
commit_place (e ∷ []) = e.place
commit_place (e ∷ f ∷ u) = if is_commit e.kind then e.place else commit_place (f ∷ u)

-- a unit put before the first one of a later commit place
abbrev pub placed : List Entry → List (List Entry) → List (List Entry)
placed u [] = u ∷ []
placed u (v ∷ us) = if nat_le (commit_place u) (commit_place v) then u ∷ v ∷ us else v ∷ placed u us

-- units in ascending order of their commit places
abbrev pub in_order : List (List Entry) → List (List Entry)
in_order [] = []
in_order (u ∷ us) = placed u (in_order us)

-- the threads of the entries of units, each unit's as neighbours
abbrev pub schedule_of : List (List Entry) → List ℕ
schedule_of [] = []
schedule_of (u ∷ us) = map (λ e. e.thread) u ++ schedule_of us

-- the written order of a schedule: its units in ascending order of their commit places
abbrev pub written_order : Program → List ℕ → List ℕ
written_order P s = schedule_of (in_order (units (entries P s)))
