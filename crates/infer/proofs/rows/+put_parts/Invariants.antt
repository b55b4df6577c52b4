use Rattle.std.proofs.Common.{length}
use Rattle.infer.proofs.rows.+put_parts.Given as goal

abbrev pub decreases-put_parts : goal.decreases-put_parts
decreases-put_parts G l = length l.paths.now
