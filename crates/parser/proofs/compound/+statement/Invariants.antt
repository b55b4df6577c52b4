use Rattle.std.proofs.Common.{◌≡◌, ◌+◌, ◌*◌, true, map, length}
use Rattle.syntax.specs.Views.{stmt_of}
use Rattle.parser.specs.Combine.{item_step, loop, several}
use Rattle.parser.specs.Statements.{block_goes_on}
use Rattle.parser.specs.Blocks.{statement_at}
use Rattle.parser.proofs.compound.+statement.Given as goal

abbrev pub decreases-block : goal.decreases-block
decreases-block l = 10 * l.high + 4

abbrev pub decreases-else_part : goal.decreases-else_part
decreases-else_part l = 10 * l.high + 2

abbrev pub decreases-if_statement : goal.decreases-if_statement
decreases-if_statement l = 10 * l.high + 3

abbrev pub decreases-next_statement : goal.decreases-next_statement
decreases-next_statement l = 10 * l.high + 7

abbrev pub decreases-statement : goal.decreases-statement
decreases-statement l = 10 * l.high + 5

abbrev pub decreases-statements : goal.decreases-statements
decreases-statements l = 10 * l.high + 8

abbrev pub decreases-sync_statement : goal.decreases-sync_statement
decreases-sync_statement l = 10 * l.high + 3

abbrev pub decreases-while_statement : goal.decreases-while_statement
decreases-while_statement l = 10 * l.high + 3

abbrev pub invariant-statements-loop-alloc : goal.invariant-statements-loop-alloc
invariant-statements-loop-alloc l = loop block_goes_on (item_step (statement_at l.high true)) (map stmt_of l.list.0.items) l.list.1.now ≡ several block_goes_on (statement_at l.high true) l.tokens

abbrev pub decreases-statements-loop-alloc : goal.decreases-statements-loop-alloc
decreases-statements-loop-alloc l = length l.list.1.now
