-- One value more.
use Rattle.std.proofs.Common.{ap, map}
use Rattle.conditions.specs.Conditions.{cond_of}
use Rattle.effects.specs.Accesses.{branching_value}
use Rattle.book_check.specs.Conclusions.{conclusions, table_value}
use Rattle.book_check.proofs.BranchLemmas.{sequence_more}
use Rattle.book_check.proofs.branching.sequence.Goals as goal

pub nodes-preserved : goal.nodes-preserved
nodes-preserved g c =
    let V = table_value (map cond_of c.args.table.now) in
    record {
      kept = c.in-Some.ensures.rest_kept;
      same = sequence_more V (g.F.Nodes.nodes c.args.nodes) (g.F.Nodes.nodes c.nodes.rest) (g.F.Nodes.nodes c.in-Some.first.rest) c.in-Some.first.number
          (branching_value c.nodes.all) (branching_value c.in_ok-next.next) (branching_value c.in_ok-all.all)
          (ap (conclusions V) c.in-Some.ensures.some) c.in_ok-next.ensures c.in_ok-all.ensures c.nodes.invariant.same;
    }
