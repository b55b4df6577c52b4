use Rattle.classes.specs.Families.{lock_meaning}
use Rattle.classes.specs.Overriding.{is_same_lock}
use Rattle.std.proofs.Common.{drop, map, ◌≡◌}
use Rattle.std.specs.List.{list_all, list_any}
use Rattle.classes.proofs.overriding.are_among.Given as goal

abbrev pub invariant-loop-lock : goal.invariant-loop-lock
invariant-loop-lock l =
    list_all (λ r. list_any (is_same_lock r) (map lock_meaning l.others)) (map lock_meaning (drop l.lock-index l.locks))
    ≡ list_all (λ r. list_any (is_same_lock r) (map lock_meaning l.others)) (map lock_meaning l.locks)
