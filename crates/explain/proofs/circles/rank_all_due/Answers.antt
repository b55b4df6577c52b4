-- One way to give ranks after the other.
use Rattle.core_program.specs.Views.{program_of}
use Rattle.rules.specs.Near.{rel_of}
use Rattle.rules.specs.Search.{row_at}
use Rattle.explain.proofs.circles.rank_all_due.Goals as goal

pub returns-then-branch-clause-circling : goal.returns-then-branch-clause-circling
returns-then-branch-clause-circling g c =
    let P = program_of c.args.walk.now.program.now in let rel = rel_of c.args.walk.now.sets.now in let A = g.A.Assigned.assigned c.args.walk.now.assigned.now in let overs = row_at c.args.over.now in
    λ bounds r. c.in_ok-rank_all_due_led.ensures.circling bounds P rel A overs r

pub returns-then-branch-2-clause-circling : goal.returns-then-branch-2-clause-circling
returns-then-branch-2-clause-circling g c =
    let P = program_of c.args.walk.now.program.now in let rel = rel_of c.args.walk.now.sets.now in let A = g.A.Assigned.assigned c.args.walk.now.assigned.now in let overs = row_at c.args.over.now in
    λ bounds r. c.in_ok-rank_all_due_known.ensures.circling bounds (c.in_ok-rank_all_due_led.ensures.circling bounds P rel A overs r)

pub returns-clause-circling : goal.returns-clause-circling
returns-clause-circling g c =
    let P = program_of c.args.walk.now.program.now in let rel = rel_of c.args.walk.now.sets.now in let A = g.A.Assigned.assigned c.args.walk.now.assigned.now in let overs = row_at c.args.over.now in
    λ bounds r. c.in_ok-rank_all_due_known-2.ensures.circling bounds (c.in_ok-rank_all_due_known.ensures.circling bounds (c.in_ok-rank_all_due_led.ensures.circling bounds P rel A overs r))
