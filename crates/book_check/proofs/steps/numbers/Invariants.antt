use Rattle.std.proofs.Common.{◌≡◌, ◌++◌, ℕ, map}
use Rattle.books.specs.Derivations.{count_nodes}
use Rattle.book_check.specs.Conclusions.{conclusions}
use Rattle.effects.specs.Rules.{Value}
use Rattle.book_check.specs.Nearness.{conclusion_numbers}
use Rattle.book_check.proofs.steps.numbers.Given as goal

abbrev pub invariant-loop-first : goal.invariant-loop-first
invariant-loop-first F l = record {
  kept : F.F.Nodes.AreKept l.rest;
  numbers : l.numbers.items ++ conclusion_numbers (F.F.Nodes.nodes l.rest) ≡ conclusion_numbers (F.F.Nodes.nodes l.fn.nodes);
  same : (V : ℕ → Value) → map V l.numbers.items ++ conclusions V (F.F.Nodes.nodes l.rest) ≡ conclusions V (F.F.Nodes.nodes l.fn.nodes);
}

abbrev pub decreases-loop-first : goal.decreases-loop-first
decreases-loop-first F l = count_nodes (F.F.Nodes.nodes l.rest)
