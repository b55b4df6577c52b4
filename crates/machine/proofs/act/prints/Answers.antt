use Rattle.std.specs.Prelude.{None}
use Rattle.state.specs.Frames.{settled}
use Rattle.machine.proofs.RoomLemmas.{top_roomy, settled_widens}
use Rattle.machine.proofs.act.prints.Goals as goal

pub returns-clause-roomy : goal.returns-clause-roomy
returns-clause-roomy c rooms = top_roomy rooms (settled 1 None c.args.place) (settled_widens rooms 1 None c.args.place) c.args.cell.now c.drop_to.new.self c.drop_to.ensures
