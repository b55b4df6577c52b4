use Rattle.std.proofs.Common.{◌≡◌, ◌+◌, ◌*◌, ◌≤◌, map}
use Rattle.conditions.specs.Conditions.{cond_of}
use Rattle.effects.specs.Bodies.{list_of}
use Rattle.book_check.specs.BookWork.{premises_work}
use Rattle.book_check.proofs.WalkLemmas.{size_nodes}
use Rattle.book_check.proofs.book_work.+spending.Given as goal

abbrev pub decreases-left_behind_node : goal.decreases-left_behind_node
decreases-left_behind_node g l = 2 * size_nodes (g.F.Nodes.nodes l.premises) + 1

abbrev pub decreases-left_behind_premises : goal.decreases-left_behind_premises
decreases-left_behind_premises g l = 2 * size_nodes (g.F.Nodes.nodes l.premises)

-- what is taken and what is left to take are all
abbrev pub invariant-left_behind_premises-loop-first : goal.invariant-left_behind_premises-loop-first
invariant-left_behind_premises-loop-first g l = record {
  kept : g.F.Nodes.AreKept l.rest;
  smaller : size_nodes (g.F.Nodes.nodes l.rest) ≤ size_nodes (g.F.Nodes.nodes l.fn.premises);
  spent : premises_work (map cond_of l.table) (list_of l.fn.parts) (g.F.Nodes.nodes l.fn.premises) + l.behind ≡ l.fn.left + premises_work (map cond_of l.table) (list_of l.parts) (g.F.Nodes.nodes l.rest);
}

abbrev pub decreases-left_behind_premises-loop-first : goal.decreases-left_behind_premises-loop-first
decreases-left_behind_premises-loop-first g l = size_nodes (g.F.Nodes.nodes l.rest)
