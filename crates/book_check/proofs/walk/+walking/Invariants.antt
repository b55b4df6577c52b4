use Rattle.std.proofs.Common.{◌+◌, ◌*◌, ◌≤◌}
use Rattle.book_check.specs.declared.walk.End.{End}
use Rattle.book_check.specs.Parts.{places_of}
use Rattle.effects.specs.Bodies.{list_of}
use Rattle.book_check.specs.Walks.{AllIn, IsWalkEnd}
use Rattle.book_check.proofs.WalkLemmas.{size_nodes}
use Rattle.book_check.proofs.walk.+walking.Given as goal

abbrev pub decreases-walk_node : goal.decreases-walk_node
decreases-walk_node g l = 2 * size_nodes (g.F.Nodes.nodes l.walked.now.premises) + 1

abbrev pub decreases-walk_premises : goal.decreases-walk_premises
decreases-walk_premises g l = 2 * size_nodes (g.F.Nodes.nodes l.premises)

-- whatever completes the rest completes the whole
abbrev pub invariant-walk_premises-loop-first : goal.invariant-walk_premises-loop-first
invariant-walk_premises-loop-first g l = record {
  kept : g.F.Nodes.AreKept l.rest;
  near : AllIn (g.J.Asked.IsNear l.asked) (g.F.Nodes.nodes l.fn.premises) → AllIn (g.J.Asked.IsNear l.asked) (g.F.Nodes.nodes l.rest);
  smaller : size_nodes (g.F.Nodes.nodes l.rest) ≤ size_nodes (g.F.Nodes.nodes l.fn.premises);
  goes : (e : End) → IsWalkEnd (g.J.Asked.IsGood l.asked) (places_of (list_of l.parts) (g.F.Nodes.nodes l.rest)) l.next e →
      IsWalkEnd (g.J.Asked.IsGood l.asked) (places_of (list_of l.fn.parts) (g.F.Nodes.nodes l.fn.premises)) l.at e;
}

abbrev pub decreases-walk_premises-loop-first : goal.decreases-walk_premises-loop-first
decreases-walk_premises-loop-first g l = size_nodes (g.F.Nodes.nodes l.rest)
