use Rattle.std.proofs.Common.{◌≡◌, length}
use Rattle.explain.specs.declared.ranking.Bounds.{Bounds}
use Rattle.explain.specs.Ranking.{AreCircling}
use Rattle.core_program.specs.Views.{program_of}
use Rattle.rules.specs.Near.{rel_of}
use Rattle.rules.specs.Search.{row_at}
use Rattle.explain.proofs.circles.rank_circles.Given as goal

-- the ranks that are smaller than this one are given
abbrev pub invariant-loop-round : goal.invariant-loop-round
invariant-loop-round g l =
    let P = program_of l.walk.program.now in let rel = rel_of l.walk.sets.now in let A = g.A.Assigned.assigned l.walk.assigned.now in let overs = row_at l.over in
    (length l.grounds.items ≡ length P.methods) × ((bounds : Bounds) → AreCircling bounds P rel A overs l.fn.given.items l.first → AreCircling bounds P rel A overs l.grounds.items l.round)
