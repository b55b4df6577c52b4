-- A turn that tells its kind.
use Rattle.std.proofs.Common.{◌≡◌, ℕ, Some, refl}
use Rattle.std.specs.Prelude.{Ok, Err}
use Rattle.state.specs.declared.value.StepKind.{StepKind}
use Rattle.state.specs.States.{State}
use Rattle.semantics.specs.Step.{Outcome, Moves, Absent, IsDone, HadFaulted, Waits, outcome_kind}
use Rattle.machine.specs.declared.deed.StepEnd.{StepEnd}
use Rattle.machine.specs.MachineValue.{MachineValue}
use Rattle.machine.specs.Standing.{IsTurn, IsKindTurn}

pub kind_told : (t : ℕ) (m : MachineValue) (q : State) (k : StepKind) (o : Outcome) → ((j : StepKind) → outcome_kind o ≡ Some j → k ≡ j) → IsTurn t (Ok tt) m q o → IsKindTurn t (Ok k) m q o
kind_told t m q k (Moves move) is turn = (is move.kind refl, turn)
kind_told t m q k Absent is turn = absurd cc
kind_told t m q k IsDone is turn = absurd cc
kind_told t m q k (HadFaulted kind) is turn = absurd cc
kind_told t m q k (Waits a holder) is turn = absurd cc

pub no_kind : (t : ℕ) (m : MachineValue) (q : State) (why : StepEnd) (o : Outcome) → IsTurn t (Err why) m q o → IsKindTurn t (Err why) m q o
no_kind t m q why (Moves move) turn = turn
no_kind t m q why Absent turn = cc
no_kind t m q why IsDone turn = cc
no_kind t m q why (HadFaulted kind) turn = cc
no_kind t m q why (Waits a holder) turn = cc
