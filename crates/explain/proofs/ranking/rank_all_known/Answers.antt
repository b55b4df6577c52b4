-- One method more, and all.
use Rattle.std.proofs.Common.{◌∙◌, ap, arith, length, refl, sym}
use Rattle.std.proofs.lemmas.List.{length-map}
use Rattle.core_program.specs.Views.{method_of, program_of}
use Rattle.rules.specs.Near.{rel_of}
use Rattle.rules.specs.Search.{row_at}
use Rattle.explain.proofs.FirstRanks.{asked_all, asked_more, item_there}
use Rattle.explain.proofs.ranking.rank_all_known.Goals as goal

pub loop-m-preserved : goal.loop-m-preserved
loop-m-preserved g c =
    let P = program_of c.args.walk.now.program.now in let rel = rel_of c.args.walk.now.sets.now in let A = g.A.Assigned.assigned c.args.walk.now.assigned.now in let overs = row_at c.args.over.now in
    asked_more P rel A overs c.args.round.now.level c.args.round.now.number c.loop-m.m (method_of c.method-item.result) c.loop-m.any c.in_ok-any.field-0 _ c.args.grounds.now.items c.loop-m.grounds.items
    c.rank_known.new.grounds.items (item_there c.methods-method-items.result.now c.loop-m.m c.method-item.result P.methods c.loop-m-test.true c.method-item.is c.methods-method-items.ensures)
    c.loop-m.invariant refl c.rank_known.ensures.length c.in_ok-any.ensures.ranked c.in_ok-any.ensures.same c.in_ok-any.ensures.stuck

pub returns-clause-stuck : goal.returns-clause-stuck
returns-clause-stuck g c =
    let P = program_of c.args.walk.now.program.now in let rel = rel_of c.args.walk.now.sets.now in let A = g.A.Assigned.assigned c.args.walk.now.assigned.now in let overs = row_at c.args.over.now in
    let many = sym (length-map c.methods-method-items.result.now method_of) ∙ ap length c.methods-method-items.ensures in
    let past = c.loop-m-test.false in
    asked_all P rel A overs c.args.round.now.level c.args.round.now.number c.loop-m.m c.loop-m.any c.args.grounds.now.items c.loop-m.grounds.items (omega (arith, many, past)) c.loop-m.invariant
