use Rattle.std.proofs.Common.{◌≡◌, ◌++◌, drop, map}
use Rattle.syntax.specs.Trees.{MethodM}
use Rattle.syntax.specs.Views.{member_of}
use Rattle.places.specs.Sources.{methods_among}
use Rattle.places.proofs.methods.add_methods.Given as goal

-- the methods so far, and then those of the rest, are all
abbrev pub invariant-loop-member : goal.invariant-loop-member
invariant-loop-member l =
    map (λ m. member_of m.now) l.methods.items ++ map MethodM (methods_among (map member_of (drop l.member-index l.members)))
    ≡ map (λ m. member_of m.now) l.fn.methods.items ++ map MethodM (methods_among (map member_of l.members))
