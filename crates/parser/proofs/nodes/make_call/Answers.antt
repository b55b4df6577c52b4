use Rattle.syntax.proofs.Bridge.{view_call}
use Rattle.parser.proofs.nodes.make_call.Goals as goal

pub returns : goal.returns
returns c = view_call c.args.receiver c.args.method c.args.arguments
