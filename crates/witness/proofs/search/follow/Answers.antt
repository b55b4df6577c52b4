-- The node behind the step, where there is one.
use Rattle.std.proofs.Common.{subst, arith}
use Rattle.std.proofs.lemmas.Result.{IfOk-weaker}
use Rattle.witness.specs.Nodes.{IsChild}
use Rattle.witness.specs.Searching.{IsNodeReached, IsFollowed}
use Rattle.witness.proofs.SearchLemmas.{node_at, child_node, child_followed, none_leads}
use Rattle.witness.proofs.search.follow.Goals as goal

pub child-requires : goal.child-requires
child-requires c =
    let nodes = c.args.nodes.now.items in
    let place = c.args.place in
    let within = c.requires.within in
    let few = c.requires.nodes.few place c.index.result.now (node_at nodes c.index.result.now place (omega (arith, within, c.args.nodes.now.ok)) c.index.ensures) in
    few

pub add_passed-requires-clause-node : goal.add_passed-requires-clause-node
add_passed-requires-clause-node c =
    let nodes = c.args.nodes.now.items in
    let n = c.index.result.now in
    let there = node_at nodes n c.args.place (omega (arith, c.requires.within, c.args.nodes.now.ok)) c.index.ensures in
    let s = c.args.search.now in
    child_node s nodes n c.args.place c.args.thread there c.requires.nodes c.in-Some.node (subst (IsChild s.counted n c.args.place c.args.thread) c.in-Some.is c.in_ok-node.ensures)

pub returns-in-Some-clause-followed : goal.returns-in-Some-clause-followed
returns-in-Some-clause-followed c =
    let nodes = c.args.nodes.now.items in
    let n = c.index.result.now in
    let there = node_at nodes n c.args.place (omega (arith, c.requires.within, c.args.nodes.now.ok)) c.index.ensures in
    let s = c.args.search.now in
    let new = c.add_passed.new.nodes.items in
    IfOk-weaker c.add_passed.result (IsNodeReached s nodes new c.in-Some.node) (IsFollowed s nodes new c.args.place c.args.thread)
    (λ room added. child_followed s nodes n c.args.place c.args.thread there c.requires.nodes new c.in-Some.node room (subst (IsChild s.counted n c.args.place c.args.thread) c.in-Some.is c.in_ok-node.ensures) added)
    c.add_passed.ensures.added

pub returns-in-None-clause-followed : goal.returns-in-None-clause-followed
returns-in-None-clause-followed c =
    let nodes = c.args.nodes.now.items in
    let n = c.index.result.now in
    let there = node_at nodes n c.args.place (omega (arith, c.requires.within, c.args.nodes.now.ok)) c.index.ensures in
    let s = c.args.search.now in
    none_leads s nodes n c.args.place c.args.thread there c.requires.nodes (subst (IsChild s.counted n c.args.place c.args.thread) c.in-None.is c.in_ok-node.ensures)
