-- The rows after one method more, and at the end.
use Rattle.std.proofs.Common.{map}
use Rattle.core_program.specs.Views.{method_of, program_of}
use Rattle.rules.specs.Near.{rel_of}
use Rattle.rules.specs.Search.{row_at}
use Rattle.explain.specs.Ranking.{first_from}
use Rattle.explain.proofs.FirstRanks.{all_rows, one_more_row}
use Rattle.explain.proofs.ranking.first_grounds.Goals as goal

pub loop-m-preserved : goal.loop-m-preserved
loop-m-preserved g c =
    let P = program_of c.args.walk.now.program.now in let rel = rel_of c.args.walk.now.sets.now in let A = g.A.Assigned.assigned c.args.walk.now.assigned.now in let overs = row_at c.args.over.now in
    one_more_row P rel A overs c.args.bounds c.methods-method-items.result.now c.loop-m.m c.method-item.result c.loop-m.grounds.items c.push.new.self.items
    (first_from P rel A overs c.args.bounds 0 (map method_of c.methods-method-items.result.now)) c.in_ok-first_ground.field-0 c.loop-m-test.true c.method-item.is c.in_ok-first_ground.ensures c.in_ok-push.ensures.items c.loop-m.invariant

pub returns : goal.returns
returns g c =
    let P = program_of c.args.walk.now.program.now in let rel = rel_of c.args.walk.now.sets.now in let A = g.A.Assigned.assigned c.args.walk.now.assigned.now in
    all_rows P rel A (row_at c.args.over.now) c.args.bounds c.methods-method-items.result.now c.loop-m.m c.loop-m.grounds.items c.loop-m-test.false c.methods-method-items.ensures c.loop-m.invariant
