use Rattle.std.proofs.Common.{◌<◌, ap, length, refl, arith}
use Rattle.std.proofs.lemmas.Option.{slice_get_read}
use Rattle.state.specs.Frames.{frames_in}
use Rattle.machine.proofs.RoomLemmas.{set_roomy, one_roomy, fault_roomy}
use Rattle.machine.proofs.turn.fails.Goals as goal

pub returns-in-Some-clause-roomy : goal.returns-in-Some-clause-roomy
returns-in-Some-clause-roomy c rooms all =
    let ts = c.args.threads.now.items in
    let below : c.args.thread < length ts = omega (arith, c.in-Some.ensures.variant.0 refl) in
    set_roomy rooms ts c.args.thread c.fault.new.self all (fault_roomy rooms c.in-Some.cell.now c.fault.new.self (ap frames_in c.fault.ensures)
    (one_roomy rooms ts c.args.thread c.in-Some.cell.now (slice_get_read ts (length ts) c.args.thread c.in-Some.cell.now refl below c.in-Some.ensures.value) all))
