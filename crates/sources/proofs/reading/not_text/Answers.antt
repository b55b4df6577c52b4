use Rattle.std.proofs.Common.{codes, subst, take}
use Rattle.sources.specs.Programs.{NoProgram, not_text}
use Rattle.sources.specs.Refusals.{TellsAt}
use Rattle.sources.proofs.Told.{right_fault}
use Rattle.sources.proofs.reading.not_text.Goals as goal

pub returns : goal.returns
returns c =
    let bytes = c.args.bytes.now in
    let at = c.args.fault.at in
    right_fault (NoProgram bytes) (take at bytes) at (codes "not text") c.refuse.result (not_text at c.requires.front)
    (subst (λ text. TellsAt text at (codes "not text") c.refuse.result) c.in-Ok.ensures.same c.refuse.ensures.line)
