use Rattle.machine.proofs.RoomLemmas.{result_roomy}
use Rattle.machine.proofs.Threads.{result_ok}
use Rattle.machine.proofs.perform.returns.Goals as goal

pub returns-clause-ok : goal.returns-clause-ok
returns-clause-ok c = result_ok c.give_result.result c.args.gives c.args.cell.now c.give_result.new.self c.give_result.ensures.ok

pub returns-clause-roomy : goal.returns-clause-roomy
returns-clause-roomy c rooms = result_roomy rooms c.give_result.result c.args.gives c.args.cell.now c.give_result.new.self c.give_result.ensures.frames c.give_result.ensures.err
