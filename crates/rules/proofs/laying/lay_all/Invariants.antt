-- The walk is before the steps that are left.
use Rattle.std.proofs.Common.{ℕ, List, Option, None, drop}
use Rattle.forest.specs.Walks.{Leads}
use Rattle.rules.specs.Ranges.{IsLaid}
use Rattle.rules.proofs.RangeLemmas.{Walking}
use Rattle.rules.proofs.laying.lay_all.Given as goal

abbrev pub invariant-loop-step : goal.invariant-loop-step
invariant-loop-step l = (nexts : List (Option ℕ)) → Leads nexts None l.steps → IsLaid nexts None l.fn.order.items l.fn.begun l.fn.ranges
    → Walking nexts (drop l.step-index l.steps) l.order.items l.begun l.ranges
