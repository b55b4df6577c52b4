use Rattle.state.specs.Frames.{rest_of}
use Rattle.machine.proofs.RoomLemmas.{top_roomy, place_widens, given_back_widens}
use Rattle.machine.proofs.act.gives.Goals as goal

pub returns-clause-roomy : goal.returns-clause-roomy
returns-clause-roomy c rooms h =
    top_roomy rooms (λ f. record f { place = c.args.place }) (place_widens rooms c.args.place) c.lock_given.new.self c.go.new.self c.go.ensures
    (top_roomy rooms (λ f. record f { taken = rest_of f.taken }) (given_back_widens rooms) c.args.cell.now c.lock_given.new.self c.lock_given.ensures.new h)
