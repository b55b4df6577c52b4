use Rattle.classes.specs.Overriding.{are_alike}
use Rattle.std.proofs.Common.{drop, ◌≡◌}
use Rattle.classes.proofs.overriding.are_alike.Given as goal

abbrev pub invariant-loop-param : goal.invariant-loop-param
invariant-loop-param l =
    are_alike (drop l.param-index l.one) l.rest ≡ are_alike l.one l.other
