use Rattle.core_program.proofs.ViewLemmas.{expr_of-Call}
use Rattle.explain.proofs.finals.call_node.Goals as goal

pub returns : goal.returns
returns c = expr_of-Call c.args.parts.0 c.args.callee c.args.parts.1
