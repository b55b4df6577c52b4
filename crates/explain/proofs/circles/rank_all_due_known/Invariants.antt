use Rattle.core_program.specs.Views.{program_of}
use Rattle.rules.specs.Near.{rel_of}
use Rattle.rules.specs.Search.{row_at}
use Rattle.explain.proofs.Ranked.{KeepsCircling}
use Rattle.explain.proofs.circles.rank_all_due_known.Given as goal

-- ranks are given so far
abbrev pub invariant-loop-place : goal.invariant-loop-place
invariant-loop-place g l =
    KeepsCircling (program_of l.walk.program.now) (rel_of l.walk.sets.now) (g.A.Assigned.assigned l.walk.assigned.now) (row_at l.over) l.round.number l.fn.grounds.items l.grounds.items
