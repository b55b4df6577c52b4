-- Above the class the line ends, after fewer classes than there are.
use Rattle.rules.proofs.AboveLemmas.{passes_up}
use Rattle.rules.proofs.above.go_up.Goals as goal

pub put_back-requires-clause-passes : goal.put_back-requires-clause-passes
put_back-requires-clause-passes c = passes_up c.args.program.now c.args.class c.args.depth c.requires.ends c.requires.few
