-- What is seen of two neighbouring steps.
use Rattle.std.specs.Prelude.{◌≡◌, ◌↔◌, ℕ, true}
use Rattle.state.specs.States.{State}
use Rattle.semantics.specs.Step.{Move}
use Rattle.library.specs.declared.steps.Steps.{Steps}
use Rattle.library.specs.Exchanged.{IsStartOf}

-- their kinds, and whether the first starts the second's thread
pub record IsSeen (s : Steps) (q : State) (m : Move) (u : ℕ) (n : Move) : Type 0 where
  pub first : s.first ≡ m.kind
  pub second : s.second ≡ n.kind
  pub starts : (s.starts ≡ true) ↔ IsStartOf q m u
