-- The first node.
use Rattle.witness.proofs.WalkedLemmas.{walked_start}
use Rattle.witness.proofs.direct.direct_order.Goals as goal

pub entries-init : goal.entries-init
entries-init c = walked_start c.args.search.now c.in_ok-node.node c.in_ok-node.ensures

pub entries-preserved : goal.entries-preserved
entries-preserved c = c.in_ok-take_entry.ensures c.if-not-branch.false
