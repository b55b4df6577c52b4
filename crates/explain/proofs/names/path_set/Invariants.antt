use Rattle.std.proofs.Common.{◌≡◌, ◌||◌, drop}
use Rattle.std.specs.List.Sorted.{IsStrictlySortedBy}
use Rattle.paths.specs.Paths.{PathData, path_order}
use Rattle.algebra.specs.HeldPaths.{has_path}
use Rattle.explain.proofs.names.path_set.Given as goal

-- the set is in order, and its paths and those that are left are all
abbrev pub invariant-loop-path : goal.invariant-loop-path
invariant-loop-path l = record {
  ascends : IsStrictlySortedBy path_order l.set.keys;
  same : (q : PathData) → (has_path l.set.keys q || has_path (drop l.path-index l.held) q) ≡ has_path l.held q;
}
