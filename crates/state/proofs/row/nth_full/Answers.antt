use Rattle.std.proofs.Common.{sym}
use Rattle.state.proofs.Grids.{full_some, full_none}
use Rattle.state.proofs.row.nth_full.Goals as goal

pub returns-in-Some : goal.returns-in-Some
returns-in-Some g c t = full_some c.args.slots.now t c.args.place c.in-Some.value.now c.requires.full (sym c.in-Some.ensures.held)

pub returns-in-None : goal.returns-in-None
returns-in-None g c t = full_none c.args.slots.now t c.args.place c.requires.full (sym c.in-None.ensures.held)
