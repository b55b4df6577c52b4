-- Why evaluation gives nothing.
use Rattle.std.specs.Prelude.{◌≡◌, List}
use Rattle.state.specs.declared.value.Value.{Value}
use Rattle.replay.specs.Answers.{Answer, Fails, Blocked, Short, Deep, End, GoesOn, Returns, Ended}
use Rattle.replay.specs.declared.ends.EvalEnd.{EvalEnd}
use Rattle.replay.specs.declared.ends.EvalEnd.TheVariants as ends
use Rattle.replay.specs.declared.ends.Flow.{Flow}
use Rattle.replay.specs.declared.ends.Flow.TheVariants as flow

-- each reason where the answer is this; of want of memory nothing is said
abbrev pub IsEvaluationEnd : {A : Type 0} → EvalEnd → Answer A → Type 0
IsEvaluationEnd (ends.Faults kind) a = a ≡ Fails kind
IsEvaluationEnd (ends.Waits address holder) a = a ≡ Blocked address holder
IsEvaluationEnd ends.Short a = a ≡ Short
IsEvaluationEnd ends.Deep a = a ≡ Deep
IsEvaluationEnd ends.NoMemory a = Unit {0}

-- how a statement ended, as plain data
abbrev pub end_of : Flow → End
end_of flow.GoesOn = GoesOn
end_of (flow.Returns v) = Returns v

-- how a statement ended, with the values of the slots at its end
abbrev pub ended : Flow → List Value → Ended
ended f slots = record { end = end_of f; slots = slots }
