-- Atomic calls of a schedule, and what plain evaluation has to give for them.
use Rattle.std.specs.Prelude.{◌≡◌, ℕ, ◌+◌, ◌<◌, ◌≤◌, Bool, true, false, ℤ, List, [], ◌∷◌, ◌++◌, length, replicate, take, Option, Some, None, slice_get, slice_set}
use Rattle.std.specs.FinMap as M
use Rattle.core_program.specs.Core.{Program, Method}
use Rattle.state.specs.declared.value.Address.{Address}
use Rattle.state.specs.declared.value.Value.{Value}
use Rattle.state.specs.Values.{top, popped, dropped, address_of}
use Rattle.state.specs.Work as W
use Rattle.state.specs.Work.{Action, Next, unfolded}
use Rattle.state.specs.States.{Thread, Ready, Running, Done, State}
use Rattle.semantics.specs.Step.{object_class, target_at, has_result}
use Rattle.semantics.specs.Run.{run, run_from, inside, frames_of}
use Rattle.replay.specs.Plain.{PlainThread, Plain, plain_of}
use Rattle.replay.specs.Answers.{Answer, Gives, Fails, Blocked, Short, Deep}
use Rattle.replay.specs.Evaluation.{most_depth, evaluate}

-- the schedule has at this place the first of the k entries of a completed outermost atomic call of thread t, which leads
-- from state q to state r: the thread stands inside an atomic call after each of them but the last, and not before them
pub record IsCallAt (P : Program) (s : List ℕ) (place k t : ℕ) (q r : State) : Type 0 where
  pub entry : slice_get s place ≡ Some t
  pub long : 1 < k
  pub within : place + k ≤ length s
  pub before : run P (take place s) ≡ Some q
  pub outside : inside P q t ≡ false
  pub inner : (i : ℕ) (mid : State) → 0 < i → i < k → run P (take (place + i) s) ≡ Some mid → inside P mid t ≡ true
  pub after : run P (take (place + k) s) ≡ Some r
  pub ended : inside P r t ≡ false

-- a call: the receiver, the method that runs, and the arguments in order
pub record Asked : Type 0 where
  pub on : Address
  pub method : ℕ
  pub arguments : List Value

-- the call of the method that runs for the receiver's class, where there is one
abbrev pub asked_target : Address → List Value → Option ℕ → Option Asked
asked_target a arguments None = None
asked_target a arguments (Some m) = Some (record { on = a; method = m; arguments = arguments })

-- the call of a method on what the receiver refers to
abbrev pub asked_on : Program → Plain → ℕ → List Value → Option Address → Option Asked
asked_on P q m arguments None = None
asked_on P q m arguments (Some a) = asked_target a arguments (target_at P m (object_class (M.get q.heap a)))

-- the call of a method with these operands
abbrev pub asked_call : Program → Plain → ℕ → List Value → Option Method → Option Asked
asked_call P q m operands None = None
asked_call P q m operands (Some method) =
    asked_on P q m (popped (length method.params) [] operands) (address_of (top (dropped (length method.params) operands)))

-- the call that an action begins
abbrev pub asked_act : Program → Plain → List Value → Action → Option Asked
asked_act P q operands (W.Call m) = asked_call P q m operands (slice_get P.methods m)
asked_act P q operands _ = None

-- the call that the next action begins, where there is one and it is a call
abbrev pub asked_next : Program → Plain → List Value → Option Next → Option Asked
asked_next P q operands None = None
asked_next P q operands (Some next) = asked_act P q operands next.0

-- the call that a thread's next step begins: of its first method where it is ready, else by its next action
abbrev pub asked_by : Program → Plain → Option Thread → Option Asked
asked_by P q (Some (Ready a m)) = Some (record { on = a; method = m; arguments = [] })
asked_by P q (Some (Running (f ∷ below))) = asked_next P q f.operands (unfolded f.work)
asked_by P q _ = None

-- the result of a call that left one on top of the operands of its thread's frame
abbrev pub result_in : Bool → Option Thread → Option Value
result_in true (Some (Running (f ∷ below))) = Some (top f.operands)
result_in _ _ = None

-- the thread is ready
abbrev pub IsReady : Option Thread → Type 0
IsReady (Some (Ready a m)) = Unit {0}
IsReady _ = ⊥

-- how many frames a thread has
abbrev pub depth : Option Thread → ℕ
depth None = 0
depth (Some thread) = length (frames_of thread)

-- the plain states agree but for the status of thread t
abbrev pub IsPlainOf : ℕ → Plain → State → Type 0
IsPlainOf t plain r = (thread : PlainThread) × (record plain { threads = slice_set plain.threads t thread } ≡ plain_of r)

-- at some moment of the k steps from state q, thread t has more than 100 frames more than in q
pub record IsDeep (P : Program) (t k : ℕ) (q : State) : Type 0 where
  pub steps : ℕ
  pub within : steps < k
  pub at : State
  pub ran : run_from P q (replicate steps t) ≡ Some at
  pub deep : depth (slice_get q.threads t) + most_depth < depth (slice_get at.threads t)

-- what evaluation gives agrees with k steps of thread t from state q to state r: it gives that state and the result, and a
-- thread's first method ends with the thread done; or it is deep, and the call was
abbrev pub EvaluationAgrees : Program → (t k method : ℕ) → (q r : State) → Answer (Option Value) → Type 0
EvaluationAgrees P t k method q r (Gives given plain) = IsPlainOf t plain r
    × (given ≡ result_in (has_result (slice_get P.methods method)) (slice_get r.threads t))
    × (IsDeep P t k q → ⊥)
    × (IsReady (slice_get q.threads t) → slice_get r.threads t ≡ Some Done)
EvaluationAgrees P t k method q r (Fails kind) = ⊥
EvaluationAgrees P t k method q r (Blocked a holder) = ⊥
EvaluationAgrees P t k method q r Short = ⊥
EvaluationAgrees P t k method q r Deep = IsDeep P t k q

-- the call that begins in state q, evaluated by itself with as many turns as it has steps, agrees with them
pub record IsReplayed (P : Program) (t k : ℕ) (q r : State) : Type 0 where
  pub asked : Asked
  pub is : asked_by P (plain_of q) (slice_get q.threads t) ≡ Some asked
  pub prints : List ℤ
  pub printed : r.output ≡ q.output ++ prints
  pub agrees : EvaluationAgrees P t k asked.method q r (evaluate P (plain_of q) t asked.on asked.method asked.arguments k)
