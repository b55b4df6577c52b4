-- All methods are asked, or those that are to be.
use Rattle.std.proofs.lemmas.Result.{on_ok_weaker}
use Rattle.core_program.specs.Views.{program_of}
use Rattle.rules.specs.Near.{rel_of}
use Rattle.rules.specs.Search.{row_at}
use Rattle.explain.proofs.Ranked.{more_circling}
use Rattle.explain.proofs.circles.rank_next.Goals as goal

pub returns-then-is_done-clause-circling : goal.returns-then-is_done-clause-circling
returns-then-is_done-clause-circling g c =
    let P = program_of c.args.walk.now.program.now in let rel = rel_of c.args.walk.now.sets.now in let A = g.A.Assigned.assigned c.args.walk.now.assigned.now in let overs = row_at c.args.over.now in
    on_ok_weaker c.rank_all_known.result (λ later bounds r. later bounds (more_circling bounds P rel A overs c.args.grounds.now.items c.args.number r)) c.rank_all_known.ensures.ranked

pub returns-clause-circling : goal.returns-clause-circling
returns-clause-circling g c =
    let P = program_of c.args.walk.now.program.now in let rel = rel_of c.args.walk.now.sets.now in let A = g.A.Assigned.assigned c.args.walk.now.assigned.now in let overs = row_at c.args.over.now in
    λ bounds r. c.in_ok-rank_all_due.ensures.circling bounds (more_circling bounds P rel A overs c.args.grounds.now.items c.args.number r)
