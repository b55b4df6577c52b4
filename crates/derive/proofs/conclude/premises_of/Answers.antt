-- One premise more.
use Rattle.std.proofs.Common.{ap, length, sym, subst}
use Rattle.books.specs.Derivations.{conclusion_number}
use Rattle.books.specs.Memory.{nodes_at}
use Rattle.book_check.specs.Conclusions.{conclusions, table_value}
use Rattle.conditions.specs.Shown.{AreAmongFirst, node_value, trees_at}
use Rattle.derive.proofs.PremiseLemmas.{values_more}
use Rattle.derive.proofs.Tables.{there_pushed}
use Rattle.derive.proofs.conclude.premises_of.Goals as goal

pub loop-premise-preserved : goal.loop-premise-preserved
loop-premise-preserved c =
    let now = c.args.table.now in
    let V = table_value (trees_at now c.args.nodes.now) in
    let l = c.loop-premise in
    record {
      known = subst (AreAmongFirst (length now)) (sym c.in_ok-push.ensures.items) (there_pushed (length now) l.found.items c.node_at.result l.invariant.known c.node_at.ensures.known);
      values = values_more (node_value now) V l.found.items c.push.new.self.items c.node_at.result c.args.premises.now l.premise-index c.premise-item.result c.lent.result.number
          (conclusions V (nodes_at c.args.premises.now)) c.loop-premise-test.true c.premise-item.is (ap conclusion_number c.lent.ensures) c.node_at.ensures.value c.in_ok-push.ensures.items l.invariant.values;
    }
