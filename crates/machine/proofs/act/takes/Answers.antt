use Rattle.std.specs.Prelude.{None, ◌∷◌}
use Rattle.state.specs.Frames.{settled}
use Rattle.machine.proofs.RoomLemmas.{top_roomy, settled_widens, taken_widens}
use Rattle.machine.proofs.act.takes.Goals as goal

pub returns-clause-roomy : goal.returns-clause-roomy
returns-clause-roomy c rooms h =
    top_roomy rooms (settled 1 None c.args.place) (settled_widens rooms 1 None c.args.place) c.lock_taken.new.self c.drop_to.new.self c.drop_to.ensures
    (top_roomy rooms (λ f. record f { taken = c.args.address ∷ f.taken }) (taken_widens rooms c.args.address) c.args.cell.now c.lock_taken.new.self c.in_ok-lock_taken.ensures.ok h)
