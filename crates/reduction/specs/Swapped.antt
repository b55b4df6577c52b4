-- Two neighbouring steps of different threads change places.
use Rattle.std.specs.Prelude.{◌≡◌, ◌≢◌, ℕ, ◌||◌, true, Option, Some, None}
use Rattle.core_program.specs.Core.{Program}
use Rattle.state.specs.declared.value.StepKind.{StepKind}
use Rattle.state.specs.declared.value.StepKind.TheVariants.{Bare}
use Rattle.state.specs.States.{State}
use Rattle.semantics.specs.Step.{Change, Starts, Move, Moves, outcome, moved}
use Rattle.semantics.specs.Words.{moves_right, moves_left}
use Rattle.reduction.specs.Changes.{AreClear}

-- by their kinds the first step may move behind the second: neither is Bare, and the first is Right or Both or the second Left or Both
pub record MayPass (first second : StepKind) : Type 0 where
  pub not_bare : first ≢ Bare
  pub also_not_bare : second ≢ Bare
  pub passes : (moves_right first || moves_left second) ≡ true

-- the number of the thread that a change starts, where there are so many threads
abbrev pub started : ℕ → Change → Option ℕ
started n (Starts a m) = Some n
started n _ = None

-- the other order: each step is the same there, with its kind, its own thread after it and its change; and both orders lead to the same state
pub record Swapped (P : Program) (q : State) (t : ℕ) (m : Move) (u : ℕ) (n : Move) : Type 0 where
  pub before : outcome P q u ≡ Moves n
  pub later : outcome P (moved u n q) t ≡ Moves m
  pub same : moved t m (moved u n q) ≡ moved u n (moved t m q)
  pub clear : AreClear m.change n.change
