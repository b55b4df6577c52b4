use Rattle.std.specs.Prelude.{None, slice_set}
use Rattle.state.specs.Frames.{settled}
use Rattle.machine.proofs.RoomLemmas.{top_roomy, settled_widens, slots_widen}
use Rattle.machine.proofs.act.stores.Goals as goal

pub returns-clause-roomy : goal.returns-clause-roomy
returns-clause-roomy c rooms h =
    top_roomy rooms (settled 1 None c.args.place) (settled_widens rooms 1 None c.args.place) c.set_slot.new.self c.drop_to.new.self c.drop_to.ensures
    (top_roomy rooms (λ f. record f { slots = slice_set f.slots c.args.slot c.args.value }) (slots_widen rooms c.args.slot c.args.value) c.args.cell.now c.set_slot.new.self c.set_slot.ensures h)
