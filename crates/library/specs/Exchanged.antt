-- Two neighbouring entries of a schedule in the other order.
use Rattle.std.specs.Prelude.{◌≡◌, ℕ, zero, suc, ◌+◌, List, ◌∷◌, length, take, Some, slice_get}
use Rattle.core_program.specs.Core.{Program}
use Rattle.state.specs.States.{State}
use Rattle.semantics.specs.Step.{Move, Moves, outcome, moved}
use Rattle.semantics.specs.Run.{run}
use Rattle.state.specs.declared.value.StepKind.{StepKind}
use Rattle.reduction.specs.Swapped.{started, MayPass, Swapped}

-- the schedule with the entry at a place and the one behind it in the other order
abbrev pub exchanged : ℕ → List ℕ → List ℕ
exchanged zero (t ∷ u ∷ s) = u ∷ t ∷ s
exchanged (suc place) (t ∷ s) = t ∷ exchanged place s
exchanged _ s = s

-- Two neighbouring steps of a schedule, the first at this place: the state before them, their threads, and what they do.
pub record AreNeighbours (P : Program) (s : List ℕ) (place : ℕ) (q : State) (t u : ℕ) (m n : Move) : Type 0 where
  pub ran : run P (take place s) ≡ Some q
  pub first : slice_get s place ≡ Some t
  pub second : slice_get s (place + 1) ≡ Some u
  pub first_step : outcome P q t ≡ Moves m
  pub second_step : outcome P (moved t m q) u ≡ Moves n

-- the first of two neighbouring steps starts the second's thread
abbrev pub IsStartOf : State → Move → ℕ → Type 0
IsStartOf q m u = started (length q.threads) m.change ≡ Some u

-- two neighbouring steps of these kinds that may not pass each other, though the first doesn't start the second's thread
pub record AreNotMovers (first second : StepKind) (q : State) (m : Move) (u : ℕ) (n : Move) : Type 0 where
  pub fresh : IsStartOf q m u → ⊥
  pub first_kind : first ≡ m.kind
  pub second_kind : second ≡ n.kind
  pub stay : MayPass m.kind n.kind → ⊥

-- two neighbouring steps that may pass each other, and what they are in the other order
pub record ArePassed (P : Program) (q : State) (t : ℕ) (m : Move) (u : ℕ) (n : Move) : Type 0 where
  pub fresh : IsStartOf q m u → ⊥
  pub pass : MayPass m.kind n.kind
  pub swapped : Swapped P q t m u n
