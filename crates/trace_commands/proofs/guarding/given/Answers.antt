-- The file of guards is read, or can't be, or is too large.
use Rattle.std.proofs.Common.{Some, Err, ap, inr, refl}
use Rattle.trace_commands.proofs.Ways.{ended_all, given_text, over_all, unread_all}
use Rattle.trace_commands.proofs.guarding.given.Goals as goal

pub returns-in-Ok-clause-guarding : goal.returns-in-Ok-clause-guarding
returns-in-Ok-clause-guarding g c = λ log.
    c.given_in.ensures log (g.F.Folder.told c.args.folder.now) (g.F.Folder.faults c.args.folder.now) (g.F.Folder.faults c.read_file.new.folder) c.in-Ok.ensures.calm
    (given_text (g.F.Folder.told c.args.folder.now c.args.name.now) c.in-Ok.bytes.items c.as_slice.result.now c.as_slice.ensures.value c.in-Ok.ensures.whole c.in-Ok.ensures.within)

pub returns-in-Err-Fault-clause-guarding : goal.returns-in-Err-Fault-clause-guarding
returns-in-Err-Fault-clause-guarding g c = λ log.
    let told = g.F.Folder.told c.args.folder.now in
    let before = g.F.Folder.faults c.args.folder.now in
    let now = g.F.Folder.faults c.read_file.new.folder in
    ended_all log (Some c.args.name.now) told before now c.unread.result c.ended.result c.ended.ensures
    (unread_all log (Some c.args.name.now) told before now c.unread.result c.args.name.now (inr refl) (c.in-Err-Fault.ensures.fault (ap Err c.in-Err-Fault.field-0-is)) c.unread.ensures)

pub returns-in-Err-TooLarge-clause-guarding : goal.returns-in-Err-TooLarge-clause-guarding
returns-in-Err-TooLarge-clause-guarding g c = λ log.
    let told = g.F.Folder.told c.args.folder.now in
    let before = g.F.Folder.faults c.args.folder.now in
    let now = g.F.Folder.faults c.read_file.new.folder in
    ended_all log (Some c.args.name.now) told before now c.over.result c.ended-in-Err-TooLarge.result c.ended-in-Err-TooLarge.ensures
    (over_all log (Some c.args.name.now) told before now c.over.result c.args.name.now (inr refl) (c.in-Err-TooLarge.ensures.too_large (ap Err c.in-Err-TooLarge.field-0-is)) c.over.ensures)
