use Rattle.std.proofs.Common.{◌≡◌, ◌++◌, drop, map}
use Rattle.syntax.specs.Views.{class_of}
use Rattle.classes.specs.Building.{above_named}
use Rattle.classes.proofs.above.classes_above.Given as goal

abbrev pub invariant-loop-class : goal.invariant-loop-class
invariant-loop-class l =
    l.aboves.items ++ map (above_named l.names) (map class_of (drop l.class-index l.classes)) ≡ map (above_named l.names) (map class_of l.classes)
