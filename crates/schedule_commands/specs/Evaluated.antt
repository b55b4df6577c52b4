-- The completed outermost atomic calls of a schedule, and what each of them gives by itself.
use Rattle.std.specs.Prelude.{◌≡◌, ℕ, List, ◌++◌, Some, slice_get}
use Rattle.core_program.specs.Core.{Program}
use Rattle.replay.specs.Plain.{Plain, plain_of}
use Rattle.replay.specs.Answers.{Gives}
use Rattle.replay.specs.Evaluation.{evaluate}
use Rattle.replay.specs.Calls.{IsCallAt, IsDeep, IsPlainOf, IsReady}
use Rattle.replay.specs.Records.{Told, IsTold, AreCallsTold}
use Rattle.state.specs.States.{Done, State}

-- What is told of a call of the schedule is what plain evaluation gives. Evaluated by itself in the state before its first entry, with as
-- many turns as it has entries, the call gives its result, the state after its last entry and the numbers that it printed. Where it is the
-- first method of its thread, the thread is done then.
pub record IsEvaluated (P : Program) (s : List ℕ) (told : Told) : Type 0 where
  pub is : IsTold P s told
  pub plain : Plain
  pub gives : evaluate P (plain_of is.before) told.thread told.on told.method is.arguments is.steps ≡ Gives told.result plain
  pub state : IsPlainOf told.thread plain is.after
  pub prints : plain.output ≡ is.before.output ++ told.prints
  pub done : IsReady (slice_get is.before.threads told.thread) → slice_get is.after.threads told.thread ≡ Some Done

-- these are all completed outermost atomic calls of the schedule, in its order, and of each is told what plain evaluation gives
pub record AreEvaluated (P : Program) (s : List ℕ) (calls : List Told) : Type 0 where
  pub told : AreCallsTold P s calls
  pub each : (n : ℕ) (call : Told) → slice_get calls n ≡ Some call → IsEvaluated P s call

-- some completed outermost atomic call of the schedule has more than 100 frames of its own at some moment
pub record HasDeep (P : Program) (s : List ℕ) : Type 0 where
  pub place : ℕ
  pub steps : ℕ
  pub thread : ℕ
  pub before : State
  pub after : State
  pub call : IsCallAt P s place steps thread before after
  pub deep : IsDeep P thread steps before
