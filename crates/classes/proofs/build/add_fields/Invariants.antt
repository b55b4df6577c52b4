use Rattle.std.proofs.Common.{◌≡◌, ◌++◌, drop, map}
use Rattle.syntax.specs.Views.{member_of}
use Rattle.classes.specs.Table.{fields_of}
use Rattle.classes.proofs.build.add_fields.Given as goal

abbrev pub invariant-loop-member : goal.invariant-loop-member
invariant-loop-member l =
    l.fields.items ++ fields_of l.names l.class (map member_of (drop l.member-index l.members))
    ≡ l.fn.fields.items ++ fields_of l.names l.class (map member_of l.members)
