use Rattle.std.proofs.Common.{length}
use Rattle.derive.proofs.names.+with_required.Given as goal

abbrev pub decreases-with_required : goal.decreases-with_required
decreases-with_required l = length l.required.now
