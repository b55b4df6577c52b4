use Rattle.std.proofs.Common.{length}
use Rattle.infer.proofs.table.+pick_held.Given as goal

abbrev pub decreases-pick_held : goal.decreases-pick_held
decreases-pick_held G l = length l.paths.now
