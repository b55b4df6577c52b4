use Rattle.syntax.proofs.Bridge.{view_new}
use Rattle.parser.proofs.nodes.make_new.Goals as goal

pub returns : goal.returns
returns c = view_new c.args.class c.args.arguments c.args.at
