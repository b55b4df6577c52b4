-- The first round, one round more, and the last.
use Rattle.std.proofs.Common.{◌∙◌, subst, sym}
use Rattle.explain.specs.Ranking.{AreRanked}
use Rattle.core_program.specs.Views.{program_of}
use Rattle.rules.specs.Near.{rel_of}
use Rattle.rules.specs.Search.{row_at}
use Rattle.explain.proofs.circles.rank_circles.Goals as goal

pub loop-round-init : goal.loop-round-init
loop-round-init g c = (c.requires.each, λ bounds r. r)

pub rank_next-requires-clause-each : goal.rank_next-requires-clause-each
rank_next-requires-clause-each g c = c.loop-round.invariant.0

pub loop-round-preserved : goal.loop-round-preserved
loop-round-preserved g c =
    (c.rank_next.ensures.length ∙ c.loop-round.invariant.0, λ bounds r. c.in_ok-rank_next.ensures.circling bounds (c.loop-round.invariant.1 bounds r))

pub returns-then-not-branch : goal.returns-then-not-branch
returns-then-not-branch g c =
    let P = program_of c.args.walk.now.program.now in let rel = rel_of c.args.walk.now.sets.now in let A = g.A.Assigned.assigned c.args.walk.now.assigned.now in let overs = row_at c.args.over.now in
    λ bounds r. record {
      round = c.loop-round.round;
      below = c.loop-round-test.true;
      ranked = subst (λ rows. AreRanked bounds P rel A overs rows c.loop-round.round) (sym (c.in_ok-rank_next.ensures.same c.if-not-branch.true)) (c.loop-round.invariant.1 bounds r).ranked;
      stuck = c.in_ok-rank_next.ensures.stuck c.if-not-branch.true;
    }
