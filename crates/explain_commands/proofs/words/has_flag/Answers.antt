-- The flag where it was found.
use Rattle.std.proofs.Common.{subst}
use Rattle.explain_commands.specs.Words.{IsFlagWord}
use Rattle.explain_commands.proofs.Several.{flag_at}
use Rattle.explain_commands.proofs.words.has_flag.Goals as goal

pub returns-then-is_flag-clause-some : goal.returns-then-is_flag-clause-some
returns-then-is_flag-clause-some c = λ e none.
    flag_at c.args.words.now c.loop-word.word-index c.word-item.result c.loop-word-test.true c.word-item.is (subst IsFlagWord c.as_str.ensures.value (c.is_flag.ensures.yes c.if-is_flag.true)) (c.loop-word.invariant.1 none)
