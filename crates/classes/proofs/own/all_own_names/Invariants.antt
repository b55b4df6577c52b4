use Rattle.std.proofs.Common.{◌≡◌, ◌++◌, drop, map}
use Rattle.syntax.specs.Views.{class_of}
use Rattle.classes.specs.Own.{all_own_names}
use Rattle.classes.proofs.own.all_own_names.Given as goal

abbrev pub invariant-loop-class : goal.invariant-loop-class
invariant-loop-class l = l.own.items ++ all_own_names (map class_of (drop l.class-index l.classes)) ≡ all_own_names (map class_of l.classes)
