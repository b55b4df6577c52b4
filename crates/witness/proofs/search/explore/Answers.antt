-- The nodes one after the other.
use Rattle.std.proofs.Common.{◌<◌, length, sym, subst, arith}
use Rattle.witness.specs.Searching.{IsExpanded, IsScheduleTo}
use Rattle.witness.proofs.SearchLemmas.{node_at, none_explored, explored_more, explored_all, no_end_at, kept_at}
use Rattle.witness.proofs.search.explore.Goals as goal

pub places-init : goal.places-init
places-init c = (c.requires.most, none_explored c.args.search.now c.args.nodes.now.items c.requires.nodes c.requires.start)

pub expand-requires-clause-within : goal.expand-requires-clause-within
expand-requires-clause-within c = omega (arith, c.places-test.true, c.len.ensures)

pub expand-requires-clause-nodes : goal.expand-requires-clause-nodes
expand-requires-clause-nodes c = c.places.invariant.1.are

pub schedule_to-requires : goal.schedule_to-requires
schedule_to-requires c =
    let nodes = c.places.nodes.items in
    let within : c.places.place < length nodes = omega (arith, c.places-test.true, c.len.ensures, c.places.nodes.ok) in
    let come = c.places.invariant.1.are.come c.places.place c.index.result.now (node_at nodes c.index.result.now c.places.place within c.index.ensures) in
    (come.0, subst (λ xs. IsScheduleTo xs c.places.place come.0) (sym c.as_slice.ensures.value) come.1)

pub returns-then-is_end : goal.returns-then-is_end
returns-then-is_end c = λ q goal.
    let nodes = c.places.nodes.items in
    let within : c.places.place < length nodes = omega (arith, c.places-test.true, c.len.ensures, c.places.nodes.ok) in
    kept_at c.args.search.now q nodes c.places.place c.index.result.now c.is_end.result c.in_ok-schedule_to.field-0 (node_at nodes c.index.result.now c.places.place within c.index.ensures) c.places.invariant.1.are
    (λ xs leads. c.in_ok-schedule_to.ensures xs (subst (λ ys. IsScheduleTo ys c.places.place xs) (sym c.as_slice.ensures.value) leads)) goal c.if-is_end.true c.is_end.ensures.like c.is_end.ensures.used

pub places-smaller : goal.places-smaller
places-smaller c = omega (arith, c.places-test.true, c.len.ensures, c.places.invariant.0)

pub places-preserved : goal.places-preserved
places-preserved c =
    let nodes = c.places.nodes.items in
    let s = c.args.search.now in
    let n = c.index.result.now in
    let within : c.places.place < length nodes = omega (arith, c.places-test.true, c.len.ensures, c.places.nodes.ok) in
    let there = node_at nodes n c.places.place within c.index.ensures in (
      c.expand.ensures.most,
      explored_more s nodes c.expand.new.nodes.items c.places.place within c.places.invariant.1
          (subst (IsExpanded s nodes c.expand.new.nodes.items c.places.place) c.if-not-branch.false c.in_ok-expand.ensures.expanded)
          (no_end_at s nodes c.places.place n c.is_end.result there c.if-is_end.false c.is_end.ensures.told),
    )

pub returns : goal.returns
returns c = λ q goal. explored_all c.args.search.now c.places.nodes.items c.places.place c.places.invariant.1 (omega (arith, c.places-test.false, c.len.ensures, c.places.nodes.ok)) q goal
