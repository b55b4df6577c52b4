use Rattle.core_program.proofs.ViewLemmas.{stmt_of-Block}
use Rattle.typing.proofs.nodes.block_node.Goals as goal

pub returns : goal.returns
returns c = stmt_of-Block c.args.nodes
