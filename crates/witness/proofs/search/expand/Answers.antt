-- Each thread's steps lead into the set.
use Rattle.std.proofs.Common.{subst, arith}
use Rattle.witness.specs.Searching.{IsFollowed}
use Rattle.witness.proofs.SearchLemmas.{node_at, none_followed, one_followed, full_followed, all_followed}
use Rattle.witness.proofs.search.expand.Goals as goal

pub loop-thread-init : goal.loop-thread-init
loop-thread-init c = (c.requires.most, c.requires.within, none_followed c.args.search.now c.args.nodes.now.items c.args.place c.requires.nodes)

pub overflow_cast-thread : goal.overflow_cast-thread
overflow_cast-thread c =
    let nodes = c.args.nodes.now.items in
    let n = c.index.result.now in
    let there = node_at nodes n c.args.place (omega (arith, c.requires.within, c.args.nodes.now.ok)) c.index.ensures in
    omega (arith, c.requires.nodes.few c.args.place n there, c.thread_count-threads.ensures.few, c.loop-thread-test.true)

pub follow-requires-clause-nodes : goal.follow-requires-clause-nodes
follow-requires-clause-nodes c = c.loop-thread.invariant.2.are

pub returns-then-not-branch-clause-expanded : goal.returns-then-not-branch-clause-expanded
returns-then-not-branch-clause-expanded c =
    full_followed c.args.search.now c.args.nodes.now.items c.loop-thread.nodes.items c.follow.new.nodes.items c.args.place c.loop-thread.thread c.loop-thread.thread c.loop-thread.invariant.2
    (subst (IsFollowed c.args.search.now c.loop-thread.nodes.items c.follow.new.nodes.items c.args.place c.loop-thread.thread) c.if-not-branch.true c.in_ok-follow.ensures.followed)

pub loop-thread-preserved : goal.loop-thread-preserved
loop-thread-preserved c = (
  c.follow.ensures.most,
  omega (arith, c.loop-thread.invariant.1, c.follow.ensures.longer),
  one_followed c.args.search.now c.args.nodes.now.items c.loop-thread.nodes.items c.follow.new.nodes.items c.args.place c.loop-thread.thread c.loop-thread.invariant.2
      (subst (IsFollowed c.args.search.now c.loop-thread.nodes.items c.follow.new.nodes.items c.args.place c.loop-thread.thread) c.if-not-branch.false c.in_ok-follow.ensures.followed),
)

pub returns-clause-expanded : goal.returns-clause-expanded
returns-clause-expanded c =
    let nodes = c.args.nodes.now.items in
    let n = c.index.result.now in
    let there = node_at nodes n c.args.place (omega (arith, c.requires.within, c.args.nodes.now.ok)) c.index.ensures in
    all_followed c.args.search.now nodes c.loop-thread.nodes.items c.args.place c.loop-thread.thread n there (omega (arith, c.thread_count-threads.ensures.count, c.loop-thread-test.false)) c.loop-thread.invariant.2
