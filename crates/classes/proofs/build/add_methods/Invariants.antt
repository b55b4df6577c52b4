use Rattle.std.proofs.Common.{◌≡◌, ◌++◌, drop, map}
use Rattle.syntax.specs.Views.{member_of}
use Rattle.classes.specs.Table.{methods_of}
use Rattle.classes.specs.Views.{method_data}
use Rattle.classes.proofs.build.add_methods.Given as goal

abbrev pub invariant-loop-member : goal.invariant-loop-member
invariant-loop-member l =
    map method_data l.methods.items ++ methods_of l.names l.class (map member_of (drop l.member-index l.members))
    ≡ map method_data l.fn.methods.items ++ methods_of l.names l.class (map member_of l.members)
