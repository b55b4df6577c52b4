use Rattle.explain.proofs.Ranked.{KeepsLed}
use Rattle.explain.proofs.circles.rank_all_due_led.Given as goal

-- ranks are given so far
abbrev pub invariant-loop-place : goal.invariant-loop-place
invariant-loop-place l = KeepsLed l.number l.fn.grounds.items l.grounds.items
