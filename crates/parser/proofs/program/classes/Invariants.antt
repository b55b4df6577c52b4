use Rattle.std.proofs.Common.{◌≡◌, map, length, true}
use Rattle.syntax.specs.Views.{class_of}
use Rattle.parser.specs.Combine.{item_step, loop}
use Rattle.parser.specs.Members.{class_at, program}
use Rattle.parser.proofs.program.classes.Given as goal

abbrev pub invariant-loop-alloc : goal.invariant-loop-alloc
invariant-loop-alloc l = loop (λ x. true) (item_step class_at) (map class_of l.list.0.items) l.list.1.now ≡ program l.tokens

abbrev pub decreases-loop-alloc : goal.decreases-loop-alloc
decreases-loop-alloc l = length l.list.1.now
