-- Reasons that are handed on.
use Rattle.std.proofs.Common.{◌≡◌, ◌++◌, List, [], refl, ap}
use Rattle.state.specs.declared.value.Value.{Value}
use Rattle.replay.specs.Plain.{Plain}
use Rattle.replay.specs.Answers.{Answer, Gives, Fails, Blocked, Short, Deep, then_do}
use Rattle.replay.specs.declared.ends.EvalEnd.{EvalEnd}
use Rattle.replay.specs.declared.ends.EvalEnd.TheVariants as ends
use Rattle.replay.specs.Ends.{IsEvaluationEnd}

-- what comes next doesn't come
pub end_then : {A B : Type 0} (e : EvalEnd) (a : Answer A) (f : A → Plain → Answer B) → IsEvaluationEnd e a → IsEvaluationEnd e (then_do a f)
end_then (ends.Faults kind) a f is = ap (λ x. then_do x f) is
end_then (ends.Waits address holder) a f is = ap (λ x. then_do x f) is
end_then ends.Short a f is = ap (λ x. then_do x f) is
end_then ends.Deep a f is = ap (λ x. then_do x f) is
end_then ends.NoMemory a f is = tt

-- values behind none
pub behind_none : (a : Answer (List Value)) → then_do a (λ vs r. Gives ([] ++ vs) r) ≡ a
behind_none (Gives vs q) = refl
behind_none (Fails kind) = refl
behind_none (Blocked a holder) = refl
behind_none Short = refl
behind_none Deep = refl
