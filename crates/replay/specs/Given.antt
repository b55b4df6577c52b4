-- What is told of a call is what evaluation gives.
use Rattle.std.specs.Prelude.{◌≡◌, ℕ, ◌+◌, List, ◌++◌, Option, Some, take}
use Rattle.core_program.specs.Core.{Program}
use Rattle.state.specs.declared.value.Value.{Value}
use Rattle.state.specs.States.{State}
use Rattle.semantics.specs.Run.{run}
use Rattle.replay.specs.Plain.{plain_of}
use Rattle.replay.specs.Answers.{Answer, Gives, Fails, Blocked, Short, Deep}
use Rattle.replay.specs.Evaluation.{evaluate}
use Rattle.replay.specs.Records.{Told}

-- evaluation from this state gives the result and the numbers that are told; or it is deep
abbrev pub GivesTold : State → Told → Answer (Option Value) → Type 0
GivesTold before told (Gives given plain) = (given ≡ told.result) × (plain.output ≡ before.output ++ told.prints)
GivesTold before told (Fails kind) = ⊥
GivesTold before told (Blocked a holder) = ⊥
GivesTold before told Short = ⊥
GivesTold before told Deep = Unit {0}

-- the told call, evaluated by itself in the state before its first entry, with some number of turns, gives what is told
pub record IsGiven (P : Program) (s : List ℕ) (told : Told) : Type 0 where
  pub place : ℕ
  pub entry : told.entry ≡ place + 1
  pub before : State
  pub ran : run P (take place s) ≡ Some before
  pub arguments : List Value
  pub turns : ℕ
  pub gives : GivesTold before told (evaluate P (plain_of before) told.thread told.on told.method arguments turns)
