use Rattle.std.proofs.Common.{◌<◌, ℕ}
use Rattle.classes.proofs.Jumping.{IsHeldAt}
use Rattle.classes.proofs.jumps.have_all.Given as goal

abbrev pub invariant-loop-number : goal.invariant-loop-number
invariant-loop-number l = (i : ℕ) → i < l.number → IsHeldAt l.buckets l.names i
