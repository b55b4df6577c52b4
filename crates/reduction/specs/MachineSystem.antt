-- The machine as a system of threads.
use Rattle.std.specs.Prelude.{ℕ, nat_lt, length, Option, Some, None, slice_get}
use Rattle.core_program.specs.Core.{Program}
use Rattle.state.specs.States.{Thread, State}
use Rattle.semantics.specs.Run.{is_inside_some}
use Rattle.semantics.specs.Step.{Outcome, Moves, outcome, moved}
use Rattle.reduction.specs.Systems.{StepTo, System}

-- the step of an outcome, where it is one
abbrev pub step_to : State → ℕ → Outcome → Option (StepTo State)
step_to q t (Moves m) = Some (record { kind = m.kind; to = moved t m q })
step_to q t _ = None

-- a thread's own are its frames and status; it is inside a block where it stands inside an atomic call
abbrev pub machine : Program → System State (Option Thread)
machine P = record {
  step = λ q t. step_to q t (outcome P q t);
  own = λ q t. slice_get q.threads t;
  inside = is_inside_some P;
  there = λ q t. nat_lt t (length q.threads);
}
