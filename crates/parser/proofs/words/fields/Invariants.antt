use Rattle.std.proofs.Common.{◌≡◌, length}
use Rattle.syntax.specs.Tokens.{is}
use Rattle.syntax.specs.declared.terminal.Terminal.TheVariants as T
use Rattle.parser.specs.Combine.{item_step, loop, several}
use Rattle.parser.specs.Words.{field_name}
use Rattle.parser.proofs.words.fields.Given as goal

abbrev pub invariant-loop-list : goal.invariant-loop-list
invariant-loop-list l = loop (is T.Dot) (item_step field_name) l.list.0.items l.list.1.now ≡ several (is T.Dot) field_name l.tokens

abbrev pub decreases-loop-list : goal.decreases-loop-list
decreases-loop-list l = length l.list.1.now
