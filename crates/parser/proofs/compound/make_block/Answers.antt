use Rattle.syntax.proofs.Bridge.{view_block}
use Rattle.parser.proofs.compound.make_block.Goals as goal

pub returns : goal.returns
returns c = view_block c.args.statements c.args.at
