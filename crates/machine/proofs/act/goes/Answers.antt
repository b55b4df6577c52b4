use Rattle.state.specs.Frames.{settled}
use Rattle.machine.proofs.RoomLemmas.{roomy_or, settled_widens}
use Rattle.machine.proofs.act.goes.Goals as goal

pub returns-clause-roomy : goal.returns-clause-roomy
returns-clause-roomy c rooms =
    roomy_or rooms c.settle.result (settled c.args.drops c.args.gives c.args.place) (settled_widens rooms c.args.drops c.args.gives c.args.place) c.args.cell.now c.settle.new.self c.settle.ensures.ok c.settle.ensures.err
