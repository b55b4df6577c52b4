-- The log can't be read, or is too large.
use Rattle.std.proofs.Common.{None, Err, ap, inl, refl}
use Rattle.trace_commands.proofs.Ways.{ended_all, over_all, unread_all}
use Rattle.trace_commands.proofs.guarding.guessed.Goals as goal

pub returns-in-Err-Fault-clause-guarding : goal.returns-in-Err-Fault-clause-guarding
returns-in-Err-Fault-clause-guarding g c =
    let told = g.F.Folder.told c.args.folder.now in
    let before = g.F.Folder.faults c.args.folder.now in
    let now = g.F.Folder.faults c.guess_file.new.folder in
    ended_all c.args.log.now None told before now c.unread.result c.ended.result c.ended.ensures
    (unread_all c.args.log.now None told before now c.unread.result c.args.log.now (inl refl) (c.in-Err-Fault.ensures.fault (ap Err c.in-Err-Fault.field-0-is)) c.unread.ensures)

pub returns-in-Err-TooLarge-clause-guarding : goal.returns-in-Err-TooLarge-clause-guarding
returns-in-Err-TooLarge-clause-guarding g c =
    let told = g.F.Folder.told c.args.folder.now in
    let before = g.F.Folder.faults c.args.folder.now in
    let now = g.F.Folder.faults c.guess_file.new.folder in
    ended_all c.args.log.now None told before now c.over.result c.ended-in-Err-TooLarge.result c.ended-in-Err-TooLarge.ensures
    (over_all c.args.log.now None told before now c.over.result c.args.log.now (inl refl) (c.in-Err-TooLarge.ensures.too_large (ap Err c.in-Err-TooLarge.field-0-is)) c.over.ensures)
