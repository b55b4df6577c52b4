use Rattle.std.proofs.Common.{sym, ◌∙◌}
use Rattle.logs.proofs.Numbered.{same_number}
use Rattle.logs.proofs.same.is_same.Goals as goal

pub returns : goal.returns
returns c = c.eq.ensures ∙ sym (same_number c.args.word.now c.args.other.now)
