use Rattle.explain.proofs.FirstRanks.{Passed}
use Rattle.explain.proofs.ranking.rank_all_led.Given as goal

-- the rows before this one were asked
abbrev pub invariant-loop-place : goal.invariant-loop-place
invariant-loop-place l = Passed l.round l.place l.any l.fn.grounds.items l.grounds.items
