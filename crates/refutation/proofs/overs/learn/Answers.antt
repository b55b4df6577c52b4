-- Its table is whole.
use Rattle.std.proofs.Common.{◌≡◌, true, rules}
use Rattle.core_program.specs.Views.{program_of}
use Rattle.rules.specs.Near.{rel_of}
use Rattle.refutation.specs.Tables.{said_by}
use Rattle.refutation.proofs.KnownOver.{tells_row}
use Rattle.refutation.proofs.overs.learn.Goals as goal

pub returns-then-made-clause-known : goal.returns-then-made-clause-known
returns-then-made-clause-known c =
    let rel = rel_of c.args.floors.now.sets.now in
    let said = said_by rel c.args.floors.now.tables.items in
    let rows = c.args.judged.now.over.now in
    let made = c.in_ok-made.made in
    let whole : made.whole ≡ true = search rules in
    c.keep.ensures.kept rows rel said c.requires.known (tells_row (program_of c.args.judged.now.program.now) rel said rows c.args.method made.table made.whole c.requires.over c.in_ok-made.ensures.tells whole)
