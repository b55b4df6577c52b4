use Rattle.witness.proofs.TableLemmas.{ZerosBelow}
use Rattle.witness.proofs.table.is_used_up.Given as goal

abbrev pub invariant-loop-count : goal.invariant-loop-count
invariant-loop-count l = ZerosBelow l.left l.count-index
