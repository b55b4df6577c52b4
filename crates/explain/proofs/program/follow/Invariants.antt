use Rattle.std.specs.Prelude.{map}
use Rattle.core_program.specs.Views.{program_of}
use Rattle.rules.specs.Near.{rel_of}
use Rattle.rules.specs.Search.{row_at}
use Rattle.explain.specs.Views.{explained_data}
use Rattle.explain.proofs.Following.{Follows}
use Rattle.explain.proofs.program.follow.Given as goal

-- what is left to be told completes what is told
abbrev pub invariant-loop : goal.invariant-loop
invariant-loop g l =
    Follows (program_of l.basis.walk.now.program.now) (rel_of l.basis.walk.now.sets.now) (g.A.Assigned.assigned l.basis.walk.now.assigned.now) (row_at l.basis.over.now) l.basis.grounds.now l.most l.counter
    l.fn.first l.fn.told.items (map explained_data l.fn.all.items) l.next l.told.items (map explained_data l.all.items)
