use Rattle.std.proofs.Common.{not}
use Rattle.explain.specs.Explaining.{is_call_of_method}
use Rattle.explain.proofs.Reasons.{Left}
use Rattle.explain.proofs.explaining.other_place.Given as goal

-- the steps before this place call the method
abbrev pub invariant-loop-place : goal.invariant-loop-place
invariant-loop-place l = Left (λ v. not (is_call_of_method l.method v.part)) l.steps l.place
