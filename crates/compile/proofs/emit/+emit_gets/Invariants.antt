use Rattle.std.proofs.Common.{length}
use Rattle.compile.proofs.emit.+emit_gets.Given as goal

abbrev pub decreases-emit_gets : goal.decreases-emit_gets
decreases-emit_gets l = length l.fields.now
