use Rattle.std.proofs.Common.{length}
use Rattle.machine.proofs.kinds.+followed.Given as goal

abbrev pub decreases-followed : goal.decreases-followed
decreases-followed l = length l.fields.now
