-- Movers, after Lipton (1975), said of states: a step that changes places with any step of another thread beside it.
use Rattle.std.specs.Prelude.{◌≡◌, ◌≢◌, ℕ, length, Some}
use Rattle.core_program.specs.Core.{Program}
use Rattle.state.specs.declared.value.StepKind.TheVariants.{Bare}
use Rattle.state.specs.States.{State}
use Rattle.semantics.specs.Step.{Move, Moves, outcome, moved}
use Rattle.reduction.specs.Swapped.{started, Swapped}

-- a thread's step changes places with any step of another thread that comes next, unless that one is Bare or the step started its thread
abbrev pub MovesRight : Program → State → ℕ → Move → Type 0
MovesRight P q t m = (u : ℕ) (n : Move) → t ≢ u → outcome P (moved t m q) u ≡ Moves n → n.kind ≢ Bare → started (length q.threads) m.change ≢ Some u → Swapped P q t m u n

-- a thread's step changes places with any step of another thread that came just before it from this state, unless that one is Bare or started its thread
abbrev pub MovesLeft : Program → State → ℕ → Move → Type 0
MovesLeft P q u n = (t : ℕ) (m : Move) → t ≢ u → outcome P q t ≡ Moves m → outcome P (moved t m q) u ≡ Moves n → m.kind ≢ Bare → started (length q.threads) m.change ≢ Some u → Swapped P q t m u n
