use Rattle.std.proofs.Common.{◌+◌, ◌*◌, ◌≤◌, ◌++◌, List, length}
use Rattle.conditions.specs.Conditions.{Cond}
use Rattle.conditions.specs.Nodes.{KeepsTrees}
use Rattle.conditions.specs.Shown.{AreAmongFirst, trees_at}
use Rattle.books.specs.Memory.{nodes_at}
use Rattle.books.specs.declared.derivation.Derivation.{Derivation}
use Rattle.effects.specs.Bodies.{list_of, part_of}
use Rattle.derive.specs.Concluded.{BeginsWithTrees, ConcludeAllOn}
use Rattle.effects.proofs.Sizes.{size_part, size_parts}
use Rattle.derive.proofs.conclude.+concluding.Given as goal

abbrev pub decreases-concluded : goal.decreases-concluded
decreases-concluded l = 2 * size_part (part_of l.part) + 1

abbrev pub decreases-all_concluded : goal.decreases-all_concluded
decreases-all_concluded l = 2 * size_parts (list_of l.parts) + 2

-- whatever is concluded of the rest is concluded of the whole, behind what is there
abbrev pub invariant-all_concluded-premises : goal.invariant-all_concluded-premises
invariant-all_concluded-premises l = record {
  smaller : size_parts (list_of l.rest) ≤ size_parts (list_of l.parts);
  there : AreAmongFirst (length l.table) l.nodes.items;
  grows : KeepsTrees l.fn.table l.table;
  more : BeginsWithTrees (trees_at l.fn.table l.fn.nodes.items) (trees_at l.table l.nodes.items);
  goes : (later : List Derivation) (table : List Cond) → BeginsWithTrees (trees_at l.table l.nodes.items) table → ConcludeAllOn l.basis table (list_of l.rest) (nodes_at later) →
      ConcludeAllOn l.basis table (list_of l.parts) (nodes_at (l.premises.items ++ later));
}

abbrev pub decreases-all_concluded-premises : goal.decreases-all_concluded-premises
decreases-all_concluded-premises l = size_parts (list_of l.rest)
