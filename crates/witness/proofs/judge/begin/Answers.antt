-- The first node.
use Rattle.witness.proofs.SearchLemmas.{first_nodes, first_set}
use Rattle.witness.proofs.judge.begin.Goals as goal

pub explore-requires-clause-nodes : goal.explore-requires-clause-nodes
explore-requires-clause-nodes c = first_nodes c.args.search.now c.push.new.self.items c.new-nodes.result.items c.in_ok-node.node c.new-nodes.ensures.items c.in_ok-push.ensures.items c.in_ok-node.ensures

pub explore-requires-clause-start : goal.explore-requires-clause-start
explore-requires-clause-start c = first_set c.args.search.now c.push.new.self.items c.new-nodes.result.items c.in_ok-node.node c.new-nodes.ensures.items c.in_ok-push.ensures.items c.in_ok-node.ensures
