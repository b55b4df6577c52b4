use Rattle.std.proofs.Common.{◌≡◌, ◌++◌, drop, map}
use Rattle.syntax.specs.Trees.{MethodM}
use Rattle.syntax.specs.Views.{class_of, member_of}
use Rattle.places.specs.Sources.{methods_in}
use Rattle.places.proofs.methods.methods_in.Given as goal

-- the methods so far, and then those of the other classes, are all
abbrev pub invariant-loop-class : goal.invariant-loop-class
invariant-loop-class l =
    map (λ m. member_of m.now) l.methods.items ++ map MethodM (methods_in (map class_of (drop l.class-index l.class-items)))
    ≡ map MethodM (methods_in (map class_of l.class-items))
