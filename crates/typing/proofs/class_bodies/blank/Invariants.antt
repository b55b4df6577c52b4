use Rattle.std.proofs.Common.{◌≡◌, length}
use Rattle.typing.proofs.class_bodies.blank.Given as goal

abbrev pub invariant-loop-class : goal.invariant-loop-class
invariant-loop-class l = length l.all.items ≡ l._class-index
