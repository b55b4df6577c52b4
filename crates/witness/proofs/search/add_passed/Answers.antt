-- What the search went on to was added.
use Rattle.std.proofs.lemmas.Result.{IfOk-weaker}
use Rattle.witness.specs.Searching.{IsNodeAdded, IsNodeReached}
use Rattle.witness.proofs.SearchLemmas.{reached_added, passed_next}
use Rattle.witness.proofs.search.add_passed.Goals as goal

pub add-requires-clause-node : goal.add-requires-clause-node
add-requires-clause-node c = passed_next c.args.search.now c.args.nodes.now.items c.args.node c.pass.new.node c.requires.node c.in_ok-pass.ensures

pub pass-requires : goal.pass-requires
pass-requires c = c.requires.node.node

pub returns-clause-added : goal.returns-clause-added
returns-clause-added c =
    let s = c.args.search.now in
    let nodes = c.args.nodes.now.items in
    let new = c.add.new.nodes.items in
    IfOk-weaker c.add.result (IsNodeAdded s nodes new c.pass.new.node) (IsNodeReached s nodes new c.args.node)
    (λ room added. reached_added s nodes new c.args.node c.pass.new.node room c.in_ok-pass.ensures added)
    c.add.ensures.added
