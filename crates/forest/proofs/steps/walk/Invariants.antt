-- The steps so far lead to this place.
use Rattle.forest.proofs.WalkLemmas.{LeadHere}
use Rattle.forest.proofs.steps.walk.Given as goal

abbrev pub invariant-loop : goal.invariant-loop
invariant-loop l = LeadHere l.above l.steps.items l.at
