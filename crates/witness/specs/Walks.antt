-- Runs that interrupt nobody, step by step: beside the state goes the thread that has to go on, where there is one.
use Rattle.std.specs.Prelude.{◌≡◌, ℕ, ◌-◌, nat_lt, Bool, true, not, ◌||◌, ◌==◌, List, [], ◌∷◌, Option, Some, None, option_and_then, count_by, if◌then◌else◌}
use Rattle.core_program.specs.Core.{Program}
use Rattle.state.specs.States.{State}
use Rattle.semantics.specs.Run.{inside}
use Rattle.semantics.specs.Step.{step}

-- whether a thread may step where this one has to go on, or none has to
abbrev pub may_step : Option ℕ → ℕ → Bool
may_step None t = true
may_step (Some u) t = t == u

-- who has to go on behind a step of a thread: that thread, where it stands inside an atomic call
abbrev pub must_step_next : Program → State → ℕ → Option ℕ
must_step_next P q t = if inside P q t then Some t else None

-- the state after a schedule that interrupts nobody; none where it doesn't run, or interrupts somebody
abbrev pub walk : Program → State → Option ℕ → List ℕ → Option State
walk P q busy [] = Some q
walk P q busy (t ∷ r) = if may_step busy t then option_and_then (λ next. walk P next (must_step_next P next t) r) (step P q t) else None

-- how often each thread stands in a schedule
abbrev pub entry_counts : List ℕ → ℕ → ℕ
entry_counts s t = count_by (λ u. u == t) s

-- the entries that are left when a thread has stepped
abbrev pub less : (ℕ → ℕ) → ℕ → ℕ → ℕ
less left t u = if t == u then left u - 1 else left u

-- whether entries are left for a thread; where they aren't counted, they always are
abbrev pub allows : (counted : Bool) → (ℕ → ℕ) → ℕ → Bool
allows counted left t = not counted || nat_lt 0 (left t)

-- A set of nodes, each a state, who has to go on there, and the entries that are left, which no step that interrupts nobody
-- leaves, and in which no node without entries left has such a state.
pub record IsClosedSet (P : Program) (counted : Bool) (Node : State → Option ℕ → (ℕ → ℕ) → Type 0) (Bad : State → Type 0) : Type 0 where
  pub goes : (q : State) (busy : Option ℕ) (left : ℕ → ℕ) (t : ℕ) (next : State) → Node q busy left → allows counted left t ≡ true → may_step busy t ≡ true → step P q t ≡ Some next
      → Node next (must_step_next P next t) (less left t)
  pub good : (q : State) (busy : Option ℕ) (left : ℕ → ℕ) → Node q busy left → ((t : ℕ) → left t ≡ 0) → Bad q → ⊥

-- no entry
abbrev pub none_left : ℕ → ℕ
none_left t = 0
