use Rattle.core_program.specs.Views.{program_of}
use Rattle.rules.specs.Near.{rel_of}
use Rattle.rules.specs.Search.{row_at}
use Rattle.explain.specs.Ranking.{AreRanked}
use Rattle.explain.proofs.circles.find_grounds.Given as goal

-- the ranks that are smaller than this one are given
abbrev pub invariant-loop-round : goal.invariant-loop-round
invariant-loop-round g l =
    AreRanked l.fn.bounds (program_of l.walk.program.now) (rel_of l.walk.sets.now) (g.A.Assigned.assigned l.walk.assigned.now) (row_at l.over) l.grounds.items l.round
