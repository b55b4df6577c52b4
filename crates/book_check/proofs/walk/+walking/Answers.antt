-- One node more, good or bad, and the end of nodes or parts.
use Rattle.std.proofs.Common.{ap, subst, arith}
use Rattle.books.specs.Derivations.{node}
use Rattle.book_check.specs.declared.walk.End.TheVariants.{Good, Bad}
use Rattle.book_check.specs.Parts.{places}
use Rattle.effects.specs.Bodies.{list_of, part_of}
use Rattle.book_check.specs.Walks.{IsWalkEnd}
use Rattle.book_check.proofs.WalkLemmas.{all_parts, ok_as, size_nodes, node_good, premise_good, premise_bad, nodes_end, parts_end}
use Rattle.book_check.proofs.walk.+walking.Goals as goal

pub walk_node-returns-clause-end : goal.walk_node-returns-clause-end
walk_node-returns-clause-end g t c =
    ok_as c.walk_premises.result _ _
    (λ e rest. node_good (g.J.Asked.IsGood c.args.asked.now) (part_of c.args.part) c.args.walked.now.word c.args.walked.now.number (g.F.Nodes.nodes c.args.walked.now.premises) c.args.at c.in_ok-next.next c.in_ok-is_good.field-0 e
    c.in_ok-is_good.ensures.good c.if-not-branch.false c.in_ok-next.ensures (list_of c.inner_parts.result) c.inner_parts.ensures rest)
    c.walk_premises.ensures.end

pub walk_premises-returns-in_default-first-clause-end : goal.walk_premises-returns-in_default-first-clause-end
walk_premises-returns-in_default-first-clause-end g t c =
    c.loop-first.invariant.goes (Good c.loop-first.next)
    (parts_end (g.J.Asked.IsGood c.args.asked.now) (list_of c.loop-first.parts) (g.F.Nodes.nodes c.loop-first.rest) c.loop-first.next c.in_default-first.ensures.none)

pub walk_premises-returns-in-Bad-clause-end : goal.walk_premises-returns-in-Bad-clause-end
walk_premises-returns-in-Bad-clause-end g t c =
    let f = c.in-Some.first in
    let d = node f.word f.number (g.F.Nodes.nodes f.premises) in
    let G = g.J.Asked.IsGood c.args.asked.now in
    c.loop-first.invariant.goes (Bad c.in-Bad.node)
    (premise_bad G (list_of c.loop-first.parts) (list_of c.in-Some-first.others) (g.F.Nodes.nodes c.loop-first.rest) (g.F.Nodes.nodes f.rest) (part_of c.in-Some-first.part) d c.loop-first.next c.in-Bad.node
    c.in-Some-first.ensures.some c.in-Some.ensures.some
    (subst (λ e. IsWalkEnd G (places (part_of c.in-Some-first.part) d) c.loop-first.next e) c.in-Bad.is c.in_ok-after.ensures.end))

pub walk_premises-loop-first-preserved : goal.walk_premises-loop-first-preserved
walk_premises-loop-first-preserved g t c =
    let f = c.in-Some.first in
    let d = node f.word f.number (g.F.Nodes.nodes f.premises) in
    let G = g.J.Asked.IsGood c.args.asked.now in
    record {
      kept = c.in-Some.ensures.rest_kept;
      near = λ all. (all_parts (g.J.Asked.IsNear c.args.asked.now) (g.F.Nodes.nodes c.loop-first.rest) (g.F.Nodes.nodes f.rest) d c.in-Some.ensures.some (c.loop-first.invariant.near all)).1;
      smaller = omega (arith, ap size_nodes c.in-Some.ensures.some, c.loop-first.invariant.smaller);
      goes = λ e rest. c.loop-first.invariant.goes e
          (premise_good G (list_of c.loop-first.parts) (list_of c.in-Some-first.others) (g.F.Nodes.nodes c.loop-first.rest) (g.F.Nodes.nodes f.rest) (part_of c.in-Some-first.part) d c.loop-first.next c.in-Good.after e
          c.in-Some-first.ensures.some c.in-Some.ensures.some
          (subst (λ z. IsWalkEnd G (places (part_of c.in-Some-first.part) d) c.loop-first.next z) c.in-Good.is c.in_ok-after.ensures.end) rest);
    }

pub walk_premises-returns-clause-end : goal.walk_premises-returns-clause-end
walk_premises-returns-clause-end g t c =
    c.loop-first.invariant.goes (Good c.loop-first.next)
    (nodes_end (g.J.Asked.IsGood c.args.asked.now) (list_of c.loop-first.parts) (g.F.Nodes.nodes c.loop-first.rest) c.loop-first.next c.in_default.ensures.none)
