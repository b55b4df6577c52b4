use Rattle.classes.specs.Families.{lock_meaning}
use Rattle.classes.specs.Overriding.{is_same_lock}
use Rattle.std.proofs.Common.{drop, map, ◌≡◌}
use Rattle.std.specs.List.{list_any}
use Rattle.classes.proofs.overriding.is_among.Given as goal

abbrev pub invariant-loop-other : goal.invariant-loop-other
invariant-loop-other l =
    list_any (is_same_lock (lock_meaning l.lock)) (map lock_meaning (drop l.other-index l.locks)) ≡ list_any (is_same_lock (lock_meaning l.lock)) (map lock_meaning l.locks)
