-- A condition, and then turns.
use Rattle.std.proofs.Common.{map}
use Rattle.conditions.specs.Conditions.{cond_of}
use Rattle.book_check.specs.Conclusions.{table_value}
use Rattle.book_check.proofs.BranchLemmas.{loop_is}
use Rattle.book_check.proofs.branching.repetition.Goals as goal

pub returns : goal.returns
returns g c =
    loop_is c.merged-2.result (table_value (map cond_of c.args.table.now)) (g.F.Nodes.nodes c.args.nodes) (g.F.Nodes.nodes c.in_ok-condition.bodies) (g.F.Nodes.nodes c.in_ok-again.field-0-1)
    (g.F.Nodes.nodes c.in_ok-body.field-0-1) c.in_ok-condition.condition c.in_ok-again.again c.in_ok-body.body c.in_ok-turn.turn c.starred.result
    c.in_ok-condition.ensures.value c.in_ok-again.ensures.value c.in_ok-body.ensures.value c.in_ok-turn.ensures c.starred.ensures c.merged-2.ensures
