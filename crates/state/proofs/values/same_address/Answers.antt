use Rattle.std.proofs.Common.{sym, ◌∙◌}
use Rattle.state.proofs.EqualFrames.{addresses_decide}
use Rattle.state.proofs.values.same_address.Goals as goal

pub returns-clause-same : goal.returns-clause-same
returns-clause-same c told = (addresses_decide c.args.one c.args.other).0 (sym c.eq.ensures ∙ told)

pub returns-clause-told : goal.returns-clause-told
returns-clause-told c same = c.eq.ensures ∙ (addresses_decide c.args.one c.args.other).1 same
