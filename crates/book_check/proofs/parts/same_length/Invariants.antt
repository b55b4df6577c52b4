use Rattle.std.proofs.Common.{◌≡◌, ◌==◌, length}
use Rattle.books.specs.Derivations.{count_nodes}
use Rattle.effects.specs.Bodies.{list_of}
use Rattle.book_check.proofs.parts.same_length.Given as goal

abbrev pub invariant-loop-first : goal.invariant-loop-first
invariant-loop-first F l = record {
  kept : F.F.Nodes.AreKept l.rest;
  same : (count_nodes (F.F.Nodes.nodes l.fn.nodes) == length (list_of l.fn.parts)) ≡ (count_nodes (F.F.Nodes.nodes l.rest) == length (list_of l.parts));
}

abbrev pub decreases-loop-first : goal.decreases-loop-first
decreases-loop-first F l = count_nodes (F.F.Nodes.nodes l.rest)
