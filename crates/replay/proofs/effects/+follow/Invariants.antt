use Rattle.std.proofs.Common.{length}
use Rattle.replay.proofs.effects.+follow.Given as goal

abbrev pub decreases-follow : goal.decreases-follow
decreases-follow l = length l.fields.now
