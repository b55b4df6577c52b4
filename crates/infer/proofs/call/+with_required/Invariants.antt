use Rattle.std.proofs.Common.{length}
use Rattle.infer.proofs.call.+with_required.Given as goal

abbrev pub decreases-with_required : goal.decreases-with_required
decreases-with_required G l = length l.required.now
