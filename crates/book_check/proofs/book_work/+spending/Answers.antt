-- A node and all below it, one premise more, and the end of nodes or parts.
use Rattle.std.proofs.Common.{◌≡◌, ◌<◌, ◌+◌, ◌-◌, MatchOption, ap, arith, map, subst}
use Rattle.conditions.specs.Conditions.{cond_of}
use Rattle.effects.specs.Bodies.{list_of, part_of}
use Rattle.effects.specs.Parts.{parts_of}
use Rattle.book_check.specs.BookWork.{premises_work, step_work}
use Rattle.book_check.proofs.WalkLemmas.{size_nodes}
use Rattle.book_check.proofs.WorkLemmas.{first_work, node_left, nodes_done, parts_done}
use Rattle.book_check.proofs.book_work.+spending.Goals as goal

pub left_behind_node-returns : goal.left_behind_node-returns
left_behind_node-returns g t c =
    let table = map cond_of c.args.table.now in
    let ds = g.F.Nodes.nodes c.args.premises in
    let part = part_of c.args.part in
    node_left c.left_behind_premises.result c.args.left c.in-Some.work (step_work table part c.args.number ds) (premises_work table (parts_of part) ds) c.in-Some.ensures.0 c.in-Some.ensures.1
    (subst (λ xs. MatchOption c.left_behind_premises.result (c.args.left - c.in-Some.work < premises_work table xs ds) (λ n. n + premises_work table xs ds ≡ c.args.left - c.in-Some.work)) c.inner_parts.ensures
    c.left_behind_premises.ensures)

pub left_behind_premises-loop-first-preserved : goal.left_behind_premises-loop-first-preserved
left_behind_premises-loop-first-preserved g t c =
    let f = c.in-Some.first in
    let one = first_work (map cond_of c.args.table.now) (list_of c.loop-first.parts) (list_of c.in-Some-first.others) (g.F.Nodes.nodes c.loop-first.rest) (g.F.Nodes.nodes f.rest) (g.F.Nodes.nodes f.premises)
    (part_of c.in-Some-first.part) f.word f.number c.in-Some-first.ensures.some c.in-Some.ensures.some in
    record {
      kept = c.in-Some.ensures.rest_kept;
      smaller = omega (arith, ap size_nodes c.in-Some.ensures.some, c.loop-first.invariant.smaller);
      spent = omega (arith, one, c.loop-first.invariant.spent, c.in-Some-left_behind_node.ensures);
    }

pub left_behind_premises-returns-in_default-first : goal.left_behind_premises-returns-in_default-first
left_behind_premises-returns-in_default-first g t c =
    let none = parts_done (map cond_of c.args.table.now) (list_of c.loop-first.parts) (g.F.Nodes.nodes c.loop-first.rest) c.in_default-first.ensures.none in
    omega (arith, none, c.loop-first.invariant.spent)

pub left_behind_premises-returns-in_default-left_behind_node : goal.left_behind_premises-returns-in_default-left_behind_node
left_behind_premises-returns-in_default-left_behind_node g t c =
    let f = c.in-Some.first in
    let one = first_work (map cond_of c.args.table.now) (list_of c.loop-first.parts) (list_of c.in-Some-first.others) (g.F.Nodes.nodes c.loop-first.rest) (g.F.Nodes.nodes f.rest) (g.F.Nodes.nodes f.premises)
    (part_of c.in-Some-first.part) f.word f.number c.in-Some-first.ensures.some c.in-Some.ensures.some in
    omega (arith, one, c.loop-first.invariant.spent, c.in_default-left_behind_node.ensures)

pub left_behind_premises-returns : goal.left_behind_premises-returns
left_behind_premises-returns g t c =
    let none = nodes_done (map cond_of c.args.table.now) (list_of c.loop-first.parts) (g.F.Nodes.nodes c.loop-first.rest) c.in_default.ensures.none in
    omega (arith, none, c.loop-first.invariant.spent)
