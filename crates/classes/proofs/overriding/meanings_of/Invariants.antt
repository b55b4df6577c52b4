use Rattle.classes.proofs.Meanings.{put_before}
use Rattle.classes.specs.Families.{lock_meaning, tree_of}
use Rattle.classes.specs.Overriding.{meanings_of}
use Rattle.syntax.specs.Views.{lock_of}
use Rattle.std.proofs.Common.{drop, map, ◌≡◌}
use Rattle.classes.proofs.overriding.meanings_of.Given as goal

abbrev pub invariant-loop-lock : goal.invariant-loop-lock
invariant-loop-lock l =
    put_before (map lock_meaning l.found.items) (meanings_of (tree_of l.family) l.class l.params (map lock_of (drop l.lock-index l.locks)))
    ≡ meanings_of (tree_of l.family) l.class l.params (map lock_of l.locks)
