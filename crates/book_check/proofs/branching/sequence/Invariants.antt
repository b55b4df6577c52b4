use Rattle.std.proofs.Common.{◌≡◌, map}
use Rattle.algebra.specs.Basics.{seq_of}
use Rattle.algebra.specs.HeldPaths.{Held}
use Rattle.conditions.specs.Conditions.{cond_of}
use Rattle.books.specs.Derivations.{count_nodes}
use Rattle.effects.specs.Accesses.{branching_value}
use Rattle.book_check.specs.Conclusions.{conclusions, table_value}
use Rattle.effects.specs.Rules.{in_sequence}
use Rattle.book_check.proofs.branching.sequence.Given as goal

-- the values so far, and then what is left, are all
abbrev pub invariant-nodes : goal.invariant-nodes
invariant-nodes F l = record {
  kept : F.F.Nodes.AreKept l.rest;
  same : (H : Held) → seq_of (branching_value l.all H) (in_sequence (conclusions (table_value (map cond_of l.table)) (F.F.Nodes.nodes l.rest)) H)
      ≡ in_sequence (conclusions (table_value (map cond_of l.table)) (F.F.Nodes.nodes l.fn.nodes)) H;
}

abbrev pub decreases-nodes : goal.decreases-nodes
decreases-nodes F l = count_nodes (F.F.Nodes.nodes l.rest)
