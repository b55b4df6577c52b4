use Rattle.algebra.specs.HeldPaths.{has_path}
use Rattle.rules.specs.Near.{rel_of}
use Rattle.refutation.specs.Tables.{said_by}
use Rattle.refutation.proofs.Reached.{JoinedSoFar}
use Rattle.refutation.proofs.up.said_over.Given as goal

-- what is joined so far and that of the rest are that of all
abbrev pub invariant-loop-method : goal.invariant-loop-method
invariant-loop-method l =
    let rel = rel_of l.floors.sets.now in
    JoinedSoFar rel (said_by rel l.floors.tables.items) l.methods (has_path l.held) l.fn.from l.so_far l.method-index
