use Rattle.std.proofs.Common.{ap}
use Rattle.state.specs.Frames.{frames_in}
use Rattle.machine.proofs.RoomLemmas.{fault_roomy}
use Rattle.machine.proofs.perform.faults.Goals as goal

pub returns-clause-roomy : goal.returns-clause-roomy
returns-clause-roomy c rooms = fault_roomy rooms c.args.cell.now c.fault.new.self (ap frames_in c.fault.ensures)
