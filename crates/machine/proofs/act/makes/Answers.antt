use Rattle.std.specs.Prelude.{Some, max}
use Rattle.state.specs.Frames.{settled}
use Rattle.state.specs.declared.value.Value.TheVariants as value
use Rattle.machine.proofs.RoomLemmas.{top_roomy, settled_widens, made_widens}
use Rattle.machine.proofs.act.makes.Goals as goal

pub returns-clause-roomy : goal.returns-clause-roomy
returns-clause-roomy c rooms h =
    top_roomy rooms (settled c.args.object.arguments (Some (value.Ref c.args.address)) c.args.object.place) (settled_widens rooms c.args.object.arguments (Some (value.Ref c.args.address)) c.args.object.place) c.make_room.new.self c.give_to.new.self c.give_to.ensures
    (top_roomy rooms (λ f. record f { room = max 1 f.room }) (made_widens rooms 1) c.args.cell.now c.make_room.new.self c.in_ok-make_room.ensures.ok h)
