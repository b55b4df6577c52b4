use Rattle.syntax.proofs.Bridge.{view_sync}
use Rattle.parser.proofs.compound.make_sync.Goals as goal

pub returns : goal.returns
returns c = view_sync c.args.lock c.args.statements c.args.at
