-- The explanations after one method more, and at the end.
use Rattle.std.proofs.Common.{map}
use Rattle.core_program.specs.Views.{method_of, program_of}
use Rattle.rules.specs.Near.{rel_of}
use Rattle.rules.specs.Search.{row_at}
use Rattle.explain.specs.Strict.{strict_from}
use Rattle.explain.specs.Views.{explained_data}
use Rattle.explain.proofs.Strictly.{all_told, one_more_told}
use Rattle.explain.proofs.strict.refused_strictly.Goals as goal

pub loop-m-preserved : goal.loop-m-preserved
loop-m-preserved g c =
    let P = program_of c.args.walk.now.program.now in let rel = rel_of c.args.walk.now.sets.now in let A = g.A.Assigned.assigned c.args.walk.now.assigned.now in let overs = row_at c.args.over.now in let grounds = c.args.grounds.now in
    one_more_told P rel A overs grounds c.methods-method-items.result.now c.loop-m.m c.method-item.result (map explained_data c.loop-m.all.items) (map explained_data c.add_strict.new.all.items)
    (strict_from P rel A overs grounds 0 (map method_of c.methods-method-items.result.now)) c.loop-m-test.true c.method-item.is c.in_ok-add_strict.ensures c.loop-m.invariant

pub returns : goal.returns
returns g c =
    let P = program_of c.args.walk.now.program.now in let rel = rel_of c.args.walk.now.sets.now in let A = g.A.Assigned.assigned c.args.walk.now.assigned.now in
    all_told P rel A (row_at c.args.over.now) c.args.grounds.now c.methods-method-items.result.now c.loop-m.m (map explained_data c.loop-m.all.items) c.loop-m-test.false c.methods-method-items.ensures c.loop-m.invariant
