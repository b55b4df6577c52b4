-- A text that begins with a basic's name begins with that basic.
use Rattle.books.proofs.Fronts.{front_leaf}
use Rattle.books.proofs.names.leaf.Goals as goal

pub returns-in-Ok : goal.returns-in-Ok
returns-in-Ok c = front_leaf c.likely_basic-likely.result c.args.text.now c.in-Ok.rest.now c.in-Ok.ensures
