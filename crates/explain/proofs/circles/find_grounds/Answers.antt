-- The first round, one round more, and those of circles.
use Rattle.std.proofs.Common.{◌∙◌, subst, sym}
use Rattle.std.proofs.lemmas.Result.{IfOk-weaker}
use Rattle.core_program.specs.Views.{program_of}
use Rattle.rules.specs.Near.{rel_of}
use Rattle.rules.specs.Search.{row_at}
use Rattle.explain.specs.Ranking.{AreAllRanked, AreRanked}
use Rattle.explain.proofs.FirstRanks.{first_ranked}
use Rattle.explain.proofs.Ranked.{are_circling, more_rounds}
use Rattle.explain.proofs.circles.find_grounds.Goals as goal

pub loop-round-init : goal.loop-round-init
loop-round-init g c =
    let P = program_of c.args.walk.now.program.now in let rel = rel_of c.args.walk.now.sets.now in let A = g.A.Assigned.assigned c.args.walk.now.assigned.now in let overs = row_at c.args.over.now in
    subst (λ rows. AreRanked c.args.bounds P rel A overs rows 1) (sym c.in_ok-grounds.ensures) (first_ranked P rel A overs c.args.bounds)

pub loop-round-preserved : goal.loop-round-preserved
loop-round-preserved g c =
    let P = program_of c.args.walk.now.program.now in let rel = rel_of c.args.walk.now.sets.now in let A = g.A.Assigned.assigned c.args.walk.now.assigned.now in let overs = row_at c.args.over.now in
    c.in_ok-rank_next_led.ensures.ranked c.args.bounds P rel A overs (more_rounds c.args.bounds P rel A overs c.loop-round.grounds.items c.loop-round.round c.loop-round.invariant)

pub rank_circles-requires-clause-each : goal.rank_circles-requires-clause-each
rank_circles-requires-clause-each g c = c.rank_next_led.ensures.length ∙ c.loop-round.invariant.each

pub returns-then-not-branch : goal.returns-then-not-branch
returns-then-not-branch g c =
    let P = program_of c.args.walk.now.program.now in let rel = rel_of c.args.walk.now.sets.now in let A = g.A.Assigned.assigned c.args.walk.now.assigned.now in let overs = row_at c.args.over.now in
    IfOk-weaker c.rank_circles.result _ (λ grounds. AreAllRanked c.args.bounds P rel A overs grounds.items)
    (λ grounds all. all c.args.bounds
    (are_circling c.args.bounds P rel A overs c.loop-round.grounds.items c.rank_next_led.new.grounds.items c.loop-round.round (c.in_ok-rank_next_led.ensures.same c.if-not-branch.true) c.loop-round.invariant (c.in_ok-rank_next_led.ensures.stuck c.if-not-branch.true)))
    c.rank_circles.ensures
