use Rattle.core_program.proofs.ViewLemmas.{expr_of-New}
use Rattle.explain.proofs.finals.new_node.Goals as goal

pub returns : goal.returns
returns c = expr_of-New c.args.class c.args.args
