-- The methods so far are there.
use Rattle.rules.proofs.RangeLemmas.{AreFirstNexts}
use Rattle.rules.proofs.nearest.next_methods.Given as goal

abbrev pub invariant-loop-place : goal.invariant-loop-place
invariant-loop-place l = AreFirstNexts l.program l.place l.nexts.items
