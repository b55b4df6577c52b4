use Rattle.std.proofs.Common.{◌≡◌, length}
use Rattle.parser.specs.Combine.{item_step, loop, several}
use Rattle.parser.specs.Statements.{block_goes_on}
use Rattle.parser.specs.Members.{set}
use Rattle.parser.proofs.member.sets.Given as goal

abbrev pub invariant-loop-list : goal.invariant-loop-list
invariant-loop-list l = loop block_goes_on (item_step set) l.list.0.items l.list.1.now ≡ several block_goes_on set l.tokens

abbrev pub decreases-loop-list : goal.decreases-loop-list
decreases-loop-list l = length l.list.1.now
