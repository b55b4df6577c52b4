use Rattle.std.proofs.Common.{◌≡◌, map, length}
use Rattle.syntax.specs.Views.{member_of}
use Rattle.parser.specs.Combine.{item_step, loop, several}
use Rattle.parser.specs.Statements.{block_goes_on}
use Rattle.parser.specs.Members.{member}
use Rattle.parser.proofs.program.members.Given as goal

abbrev pub invariant-loop-alloc : goal.invariant-loop-alloc
invariant-loop-alloc l = loop block_goes_on (item_step member) (map member_of l.list.0.items) l.list.1.now ≡ several block_goes_on member l.tokens

abbrev pub decreases-loop-alloc : goal.decreases-loop-alloc
decreases-loop-alloc l = length l.list.1.now
