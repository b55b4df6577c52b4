use Rattle.std.proofs.Common.{◌+◌, ◌*◌, ◌≤◌, ◌++◌, List, length}
use Rattle.conditions.specs.Conditions.{Cond}
use Rattle.conditions.specs.Shown.{trees_at}
use Rattle.books.specs.Books.{AreNumbered, node_high, nodes_high}
use Rattle.books.specs.Memory.{node_of, nodes_at}
use Rattle.books.specs.declared.derivation.Derivation.{Derivation}
use Rattle.derive.specs.Moved.{AreMoved}
use Rattle.derive.specs.Pools.{pool_table, IsPool}
use Rattle.derive.proofs.moving.+moving.Given as goal

abbrev pub decreases-moved : goal.decreases-moved
decreases-moved l = 2 * node_high (node_of l.derivation.now)

abbrev pub decreases-all_moved : goal.decreases-all_moved
decreases-all_moved l = 2 * nodes_high (nodes_at l.derivations.now) + 1

-- whatever is moved of the rest is moved of the whole
abbrev pub invariant-all_moved-premises : goal.invariant-all_moved-premises
invariant-all_moved-premises l = record {
  pool : IsPool l.table l.pool;
  smaller : nodes_high (nodes_at l.rest) ≤ nodes_high (nodes_at l.derivations);
  numbered : AreNumbered (length (trees_at l.table l.nodes)) (nodes_at l.rest);
  goes : (later : List Derivation) (new : List Cond) → AreMoved (trees_at l.table l.nodes) (pool_table l.pool) new (nodes_at l.rest) (nodes_at later) →
      AreMoved (trees_at l.table l.nodes) (pool_table l.fn.pool) new (nodes_at l.derivations) (nodes_at (l.moved_so_far.items ++ later));
}

abbrev pub decreases-all_moved-premises : goal.decreases-all_moved-premises
decreases-all_moved-premises l = length l.rest
