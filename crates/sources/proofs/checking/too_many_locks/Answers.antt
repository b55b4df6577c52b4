use Rattle.std.proofs.Common.{subst}
use Rattle.core_program.specs.Views.{program_of}
use Rattle.report.specs.SourceFaults.{locks_kind}
use Rattle.sources.specs.Refusals.{TellsAt}
use Rattle.sources.proofs.Refusing.{crowded_end}
use Rattle.sources.proofs.checking.too_many_locks.Goals as goal

pub returns-in-TooManyLocks : goal.returns-in-TooManyLocks
returns-in-TooManyLocks c =
    let file = c.args.text.now in
    let m = c.in-TooManyLocks.method in
    let r = c.refuse.result in
    crowded_end file c.requires.core.0 (program_of c.args.program.now) m r c.requires.core.1 (c.requires.first m c.in-TooManyLocks.is)
    (subst (λ at. TellsAt file at locks_kind r) c.name_offset-at.ensures c.refuse.ensures.line)
