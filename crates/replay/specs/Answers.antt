-- What evaluation answers.
use Rattle.std.specs.Prelude.{ℕ, List, Option, Some, None}
use Rattle.state.specs.declared.value.Address.{Address}
use Rattle.state.specs.declared.value.Value.{Value}
use Rattle.state.specs.declared.value.Value.TheVariants as value
use Rattle.state.specs.declared.value.Fault.{Fault}
use Rattle.replay.specs.Plain.{Plain}

-- something with the plain state after it, or the reason why there is nothing
pub data Answer (A : Type 0) : Type 0 where
  Gives : A → Plain → Answer A
  Fails : Fault → Answer A
  -- another thread holds the lock of this address
  Blocked : Address → ℕ → Answer A
  -- there are no turns left, or a number is full
  Short : Answer A
  -- too many calls are open within each other
  Deep : Answer A

-- what comes next with what is given; the other answers stay
abbrev pub then_do : {A B : Type 0} → Answer A → (A → Plain → Answer B) → Answer B
then_do (Gives x q) next = next x q
then_do (Fails kind) next = Fails kind
then_do (Blocked a holder) next = Blocked a holder
then_do Short next = Short
then_do Deep next = Deep

-- how a statement ends: what stands after it comes next, or the method returns with a value or without
pub data End : Type 0 where
  GoesOn : End
  Returns : Option Value → End

-- the end of a statement, and the slots then
pub record Ended : Type 0 where
  pub end : End
  pub slots : List Value

-- the value that a body ends with; null where it has none, which no typed program uses
abbrev pub ended_value : End → Value
ended_value GoesOn = value.Null
ended_value (Returns None) = value.Null
ended_value (Returns (Some v)) = v

-- what stands after it comes next
abbrev pub completed_normally : List Value → Plain → Answer Ended
completed_normally slots q = Gives (record { end = GoesOn; slots = slots }) q

-- what comes after an end: the next part, or nothing more where the method returned
abbrev pub next_after : End → List Value → Plain → (List Value → Plain → Answer Ended) → Answer Ended
next_after GoesOn slots q next = next slots q
next_after (Returns v) slots q next = Gives (record { end = Returns v; slots = slots }) q

-- two statements, one after the other
abbrev pub in_turn : Answer Ended → (List Value → Plain → Answer Ended) → Answer Ended
in_turn first next = then_do first (λ x q. next_after x.end x.slots q next)
