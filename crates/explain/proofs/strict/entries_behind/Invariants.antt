use Rattle.std.proofs.Common.{◌≡◌, ◌++◌, drop, map}
use Rattle.core_program.specs.Views.{program_of}
use Rattle.rules.specs.Near.{rel_of}
use Rattle.rules.specs.Search.{row_at}
use Rattle.explain.specs.Strict.{entries_behind, settled_from}
use Rattle.explain.specs.Views.{explained_data}
use Rattle.explain.proofs.strict.entries_behind.Given as goal

-- those so far and those behind the rest are all
abbrev pub invariant-loop-x : goal.invariant-loop-x
invariant-loop-x g l =
    let P = program_of l.walk.program.now in let rel = rel_of l.walk.sets.now in let A = g.A.Assigned.assigned l.walk.assigned.now in
    map explained_data l.all.items ++ entries_behind P rel A (row_at l.over) l.grounds l.told.items (map explained_data (drop l.x-index l.refused)) ≡ entries_behind P rel A (row_at l.over) l.grounds (settled_from P A 0 P.methods) (map explained_data l.refused)
