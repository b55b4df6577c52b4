use Rattle.std.proofs.Common.{◌≡◌, ◌++◌, drop, map}
use Rattle.syntax.specs.Views.{class_of}
use Rattle.classes.specs.Building.{above_at}
use Rattle.classes.specs.Climbs.{first_climbs}
use Rattle.classes.proofs.climbs.first_climbs.Given as goal

abbrev pub invariant-loop-number : goal.invariant-loop-number
invariant-loop-number l =
    l.climbs.items ++ first_climbs (above_at l.aboves) l.number (map class_of (drop l.number l.classes)) ≡ first_climbs (above_at l.aboves) 0 (map class_of l.classes)
