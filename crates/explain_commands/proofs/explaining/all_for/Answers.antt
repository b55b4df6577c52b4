-- The explanations by the ranks that were found.
use Rattle.std.proofs.Common.{ap, subst, ◌∙◌}
use Rattle.core_program.specs.Views.{program_of}
use Rattle.explain.specs.Ranking.{AreAllRanked}
use Rattle.explain_commands.specs.Orders.{explanations_for}
use Rattle.rules.specs.Near.{rel_of}
use Rattle.rules.specs.Search.{row_at}
use Rattle.explain_commands.proofs.explaining.all_for.Goals as goal

pub returns : goal.returns
returns g c =
    let P = program_of c.args.walk.now.program.now in
    let rel = rel_of c.args.walk.now.sets.now in
    let A = g.A.Assigned.assigned c.args.walk.now.assigned.now in
    let overs = row_at c.args.over.now in
    record {
      grounds = c.in_ok-grounds.grounds.items;
      are_grounds = subst (λ b. AreAllRanked b P rel A overs c.in_ok-grounds.grounds.items) c.bounds_for.ensures c.in_ok-grounds.ensures;
      xs_are = c.in_ok-all.ensures ∙ ap (explanations_for c.args.order P rel A overs) c.as_slice.ensures.value;
    }
