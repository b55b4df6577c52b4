use Rattle.std.proofs.Common.{◌≡◌, drop, map}
use Rattle.syntax.specs.Views.{member_of}
use Rattle.classes.specs.Climbs.{have_field}
use Rattle.classes.proofs.climbs.have_field.Given as goal

abbrev pub invariant-loop-member : goal.invariant-loop-member
invariant-loop-member l = have_field (map member_of (drop l.member-index l.members)) ≡ have_field (map member_of l.members)
