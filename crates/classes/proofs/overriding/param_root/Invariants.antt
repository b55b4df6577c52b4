use Rattle.classes.specs.Families.{tree_of}
use Rattle.classes.specs.Overriding.{param_root}
use Rattle.std.proofs.Common.{drop, ◌+◌, ◌≡◌}
use Rattle.classes.proofs.overriding.param_root.Given as goal

abbrev pub invariant-loop-place : goal.invariant-loop-place
invariant-loop-place l =
    param_root (tree_of l.family) (l.place + 1) (drop l.place l.params) l.name ≡ param_root (tree_of l.family) 1 l.params l.name
