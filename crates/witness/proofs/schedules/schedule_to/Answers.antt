-- The nodes from the last one back to the first.
use Rattle.std.proofs.Common.{◌++◌, ap, ◌∙◌, arith}
use Rattle.std.specs.Prelude.{reverse}
use Rattle.witness.proofs.ScheduleLemmas.{leads_within, none_back, earlier_from, one_back, all_back}
use Rattle.witness.proofs.SearchLemmas.{node_at}
use Rattle.witness.proofs.schedules.schedule_to.Goals as goal

pub nodes-init : goal.nodes-init
nodes-init c = none_back c.args.nodes.now c.args.place c.new-schedule.result.items c.new-schedule.ensures.items c.requires

pub bounds-nodes-at : goal.bounds-nodes-at
bounds-nodes-at c = leads_within c.args.nodes.now c.nodes.at c.nodes.invariant.front c.nodes.invariant.leads c.nodes-test.true

pub nodes-smaller : goal.nodes-smaller
nodes-smaller c =
    let nodes = c.args.nodes.now in
    let at = c.nodes.at in
    let n = c.index-nodes-at.result in
    let h = c.nodes.invariant in
    earlier_from nodes c.args.place at n c.nodes.schedule.items h c.nodes-test.true (node_at nodes n at (leads_within nodes at h.front h.leads c.nodes-test.true) c.index-nodes-at.is)

pub nodes-preserved : goal.nodes-preserved
nodes-preserved c =
    let nodes = c.args.nodes.now in
    let at = c.nodes.at in
    let n = c.index-nodes-at.result in
    let h = c.nodes.invariant in
    one_back nodes c.args.place at n c.nodes.schedule.items h c.nodes-test.true (node_at nodes n at (leads_within nodes at h.front h.leads c.nodes-test.true) c.index-nodes-at.is)
    c.add_backwards.new.schedule.items (c.in_ok-add_backwards.ensures ∙ ap (λ xs. c.nodes.schedule.items ++ reverse xs) c.as_slice.ensures.value)

pub returns : goal.returns
returns c = λ r leads.
    let h = c.nodes.invariant in
    all_back c.args.nodes.now c.args.place c.nodes.at c.nodes.schedule.items c.reverse.new.self.items h (omega (arith, c.nodes-test.false)) c.reverse.ensures.items r leads
