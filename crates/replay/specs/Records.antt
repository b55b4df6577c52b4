-- What is told of the completed outermost atomic calls of a schedule.
use Rattle.std.specs.Prelude.{◌≡◌, ℕ, ◌+◌, ◌<◌, ℤ, List, ◌++◌, Option, Some, slice_get}
use Rattle.core_program.specs.Core.{Program}
use Rattle.state.specs.declared.value.Address.{Address}
use Rattle.state.specs.declared.value.Value.{Value}
use Rattle.state.specs.States.{State}
use Rattle.semantics.specs.Step.{has_result}
use Rattle.replay.specs.Plain.{plain_of}
use Rattle.replay.specs.Calls.{IsCallAt, asked_by, result_in, IsDeep}

-- a call: the number of its first entry, counted from 1, its thread, the method that runs, the receiver, its result, where it has one, and the numbers
-- that it printed
pub record Told : Type 0 where
  pub entry : ℕ
  pub thread : ℕ
  pub method : ℕ
  pub on : Address
  pub result : Option Value
  pub prints : List ℤ

-- this is told of a completed outermost atomic call of the schedule
pub record IsTold (P : Program) (s : List ℕ) (told : Told) : Type 0 where
  pub place : ℕ
  pub steps : ℕ
  pub before : State
  pub after : State
  pub call : IsCallAt P s place steps told.thread before after
  pub entry : told.entry ≡ place + 1
  pub arguments : List Value
  pub asked : asked_by P (plain_of before) (slice_get before.threads told.thread) ≡ Some (record { on = told.on; method = told.method; arguments = arguments })
  pub result : told.result ≡ result_in (has_result (slice_get P.methods told.method)) (slice_get after.threads told.thread)
  pub prints : after.output ≡ before.output ++ told.prints

-- these are told of all such calls, in the order of the schedule
pub record AreCallsTold (P : Program) (s : List ℕ) (calls : List Told) : Type 0 where
  pub each : (n : ℕ) (told : Told) → slice_get calls n ≡ Some told → IsTold P s told
  pub ascend : (n : ℕ) (one next : Told) → slice_get calls n ≡ Some one → slice_get calls (n + 1) ≡ Some next → one.entry < next.entry
  pub all : (place k t : ℕ) (q r : State) → IsCallAt P s place k t q r → (n : ℕ) × (told : Told) × (slice_get calls n ≡ Some told) × (told.entry ≡ place + 1)

-- no call of the schedule has more than 100 frames of its own at some moment
abbrev pub HasNoDeep : Program → List ℕ → Type 0
HasNoDeep P s = (place k t : ℕ) (q r : State) → IsCallAt P s place k t q r → IsDeep P t k q → ⊥

-- the call whose first entry has this number, counted from 1, is the first of the schedule that has more than 100 frames of its own at some moment
pub record IsFirstTooDeep (P : Program) (s : List ℕ) (entry : ℕ) : Type 0 where
  pub place : ℕ
  pub steps : ℕ
  pub thread : ℕ
  pub before : State
  pub after : State
  pub call : IsCallAt P s place steps thread before after
  pub entry_is : entry ≡ place + 1
  pub deep : IsDeep P thread steps before
  pub first : (other k t : ℕ) (q r : State) → IsCallAt P s other k t q r → other < place → IsDeep P t k q → ⊥
