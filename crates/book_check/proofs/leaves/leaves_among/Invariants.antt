use Rattle.std.proofs.Common.{◌≡◌, ◌≤◌, ◌+◌, map}
use Rattle.conditions.specs.Conditions.{cond_of}
use Rattle.books.specs.Derivations.{count_nodes}
use Rattle.book_check.specs.BookWork.{leaves_among}
use Rattle.book_check.proofs.leaves.leaves_among.Given as goal

-- what is counted and what is left to count are all
abbrev pub invariant-loop-first : goal.invariant-loop-first
invariant-loop-first F l = record {
  kept : F.F.Nodes.AreKept l.rest;
  within : l.left ≤ l.fn.most;
  counted : leaves_among (map cond_of l.table) (F.F.Nodes.nodes l.fn.nodes) + l.left ≡ l.fn.most + leaves_among (map cond_of l.table) (F.F.Nodes.nodes l.rest);
}

abbrev pub decreases-loop-first : goal.decreases-loop-first
decreases-loop-first F l = count_nodes (F.F.Nodes.nodes l.rest)
