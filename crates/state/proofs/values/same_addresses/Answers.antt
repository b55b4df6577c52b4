use Rattle.std.proofs.lemmas.Slice.Eq.{slice_eq-Decides}
use Rattle.state.proofs.EqualFrames.{addresses_decide}
use Rattle.state.proofs.values.same_addresses.Goals as goal

pub returns : goal.returns
returns c = (slice_eq-Decides addresses_decide c.args.some.now c.args.others.now c.eq.result c.eq.ensures).0
