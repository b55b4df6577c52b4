use Rattle.core_program.proofs.ViewLemmas.{expr_of-Call}
use Rattle.typing.proofs.calls.call_node.Goals as goal

pub returns : goal.returns
returns c = expr_of-Call c.args.receiver c.args.method c.args.args
