use Rattle.std.proofs.Common.{sym, ◌∙◌}
use Rattle.state.proofs.EqualFrames.{status_is}
use Rattle.state.proofs.copies.same_status.Goals as goal

pub returns : goal.returns
returns c told = status_is c.args.one c.args.other (sym c.eq.ensures ∙ told)
