use Rattle.std.proofs.Common.{◌≡◌, ◌++◌, drop, map}
use Rattle.core_program.specs.Views.{method_of, program_of}
use Rattle.rules.specs.Near.{rel_of}
use Rattle.rules.specs.Search.{row_at}
use Rattle.explain.specs.Strict.{strict_from}
use Rattle.explain.specs.Views.{explained_data}
use Rattle.explain.proofs.strict.refused_strictly.Given as goal

-- the explanations so far and those of the rest are all
abbrev pub invariant-loop-m : goal.invariant-loop-m
invariant-loop-m g l =
    let P = program_of l.walk.program.now in let rel = rel_of l.walk.sets.now in let A = g.A.Assigned.assigned l.walk.assigned.now in
    map explained_data l.all.items ++ strict_from P rel A (row_at l.over) l.grounds l.m (map method_of (drop l.m l.method-items)) ≡ strict_from P rel A (row_at l.over) l.grounds 0 (map method_of l.method-items)
