use Rattle.classes.specs.Families.{all_above}
use Rattle.classes.specs.Lines.{above_in}
use Rattle.syntax.specs.Views.{class_of}
use Rattle.std.proofs.Common.{Some, drop, map, ◌++◌, ◌≡◌}
use Rattle.classes.proofs.family.all_above.Given as goal

abbrev pub invariant-loop-class : goal.invariant-loop-class
invariant-loop-class l =
    l.above.items ++ map (λ c. above_in (map class_of l.classes) (Some c)) (map class_of (drop l.class-index l.classes)) ≡ all_above (map class_of l.classes)
