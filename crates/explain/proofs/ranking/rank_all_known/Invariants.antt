use Rattle.core_program.specs.Views.{program_of}
use Rattle.rules.specs.Near.{rel_of}
use Rattle.rules.specs.Search.{row_at}
use Rattle.explain.proofs.FirstRanks.{Asked}
use Rattle.explain.proofs.ranking.rank_all_known.Given as goal

-- the methods before this one were asked
abbrev pub invariant-loop-m : goal.invariant-loop-m
invariant-loop-m g l =
    Asked (program_of l.walk.program.now) (rel_of l.walk.sets.now) (g.A.Assigned.assigned l.walk.assigned.now) (row_at l.over) l.round.level l.round.number l.m l.any l.fn.grounds.items l.grounds.items
