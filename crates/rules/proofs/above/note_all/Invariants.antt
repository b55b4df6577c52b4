-- The walk is before the steps that are left.
use Rattle.std.proofs.Common.{drop}
use Rattle.rules.proofs.AboveLemmas.{Walking}
use Rattle.rules.proofs.above.note_all.Given as goal

abbrev pub invariant-loop-step : goal.invariant-loop-step
invariant-loop-step l = Walking l.program (drop l.step-index l.steps) l.depth l.current l.noted
