use Rattle.std.proofs.Common.{length}
use Rattle.infer.proofs.inference.+put_consts.Given as goal

abbrev pub decreases-put_consts : goal.decreases-put_consts
decreases-put_consts l = length l.paths.now
