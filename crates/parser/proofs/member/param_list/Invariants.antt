use Rattle.std.proofs.Common.{◌≡◌, length}
use Rattle.syntax.specs.Tokens.{is}
use Rattle.syntax.specs.declared.terminal.Terminal.TheVariants as T
use Rattle.parser.specs.Combine.{comma_step, loop}
use Rattle.parser.specs.Members.{param, param_list}
use Rattle.parser.proofs.member.param_list.Given as goal

abbrev pub invariant-loop-list : goal.invariant-loop-list
invariant-loop-list l = loop (is T.Comma) (comma_step (param l.of_ctor)) l.list.0.items l.list.1.now ≡ param_list l.of_ctor l.tokens

abbrev pub decreases-loop-list : goal.decreases-loop-list
decreases-loop-list l = length l.list.1.now
