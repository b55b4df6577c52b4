use Rattle.std.proofs.Common.{length, ◌-◌}
use Rattle.schedule.proofs.ReadLemmas.{SoFar}
use Rattle.schedule.proofs.reader.read_pieces.Given as goal

abbrev pub invariant-pieces : goal.invariant-pieces
invariant-pieces l = SoFar l.bytes l.at l.schedule.items

abbrev pub decreases-pieces : goal.decreases-pieces
decreases-pieces l = length l.bytes - l.at
