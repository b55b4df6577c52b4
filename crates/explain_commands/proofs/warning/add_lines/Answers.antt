-- Each write is by a method that is there.
use Rattle.std.proofs.Common.{length}
use Rattle.explain_commands.proofs.Warnings.{write_within}
use Rattle.explain_commands.proofs.warning.add_lines.Goals as goal

pub add_warning-requires : goal.add_warning-requires
add_warning-requires c = write_within (length c.args.told.now.methods.now.items) c.args.writes.now c.loop-write.write-index c.write-item.result c.loop-write-test.true c.write-item.is c.requires
