use Rattle.std.specs.Prelude.{map}
use Rattle.core_program.specs.Views.{program_of}
use Rattle.rules.specs.Near.{rel_of}
use Rattle.rules.specs.Search.{row_at}
use Rattle.explain.specs.Programs.{explanations}
use Rattle.explain.specs.Views.{explained_data}
use Rattle.explain.proofs.Following.{one_more}
use Rattle.explain.proofs.program.explanations.Goals as goal

pub loop-m-preserved : goal.loop-m-preserved
loop-m-preserved g c =
    let P = program_of c.args.walk.now.program.now in let rel = rel_of c.args.walk.now.sets.now in let A = g.A.Assigned.assigned c.args.walk.now.assigned.now in let overs = row_at c.args.over.now in
    one_more P rel A overs c.args.grounds.now c.methods-methods.result.now c.loop-m.m c.index-methods-m.result c.loop-m.told.items c.add_refused.new.told.items (map explained_data c.loop-m.all.items) (map explained_data c.add_refused.new.all.items)
    (explanations P rel A overs c.args.grounds.now) c.loop-m-test.true c.index-methods-m.is c.in_ok-add_refused.ensures c.loop-m.invariant
