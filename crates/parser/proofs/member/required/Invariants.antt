use Rattle.std.proofs.Common.{◌≡◌, map, length}
use Rattle.syntax.specs.Tokens.{is}
use Rattle.syntax.specs.declared.terminal.Terminal.TheVariants as T
use Rattle.syntax.specs.Views.{lock_of}
use Rattle.parser.specs.Combine.{comma_step, loop}
use Rattle.parser.specs.Words.{lock}
use Rattle.parser.specs.Members.{required}
use Rattle.parser.proofs.member.required.Given as goal

abbrev pub invariant-loop-alloc : goal.invariant-loop-alloc
invariant-loop-alloc l = loop (is T.Comma) (comma_step lock) (map lock_of l.list.0.items) l.list.1.now ≡ required l.tokens

abbrev pub decreases-loop-alloc : goal.decreases-loop-alloc
decreases-loop-alloc l = length l.list.1.now
