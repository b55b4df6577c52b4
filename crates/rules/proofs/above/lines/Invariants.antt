-- The classes so far are there.
use Rattle.std.proofs.Common.{◌≡◌, map, take}
use Rattle.core_program.specs.declared.program.CoreClass.{CoreClass}
use Rattle.rules.proofs.above.lines.Given as goal

abbrev pub invariant-loop-class : goal.invariant-loop-class
invariant-loop-class l = l.above.items ≡ map (λ (c : CoreClass). c.above) (take l.class-index l.program.classes.items)
