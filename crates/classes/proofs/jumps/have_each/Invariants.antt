use Rattle.std.proofs.Common.{◌≡◌, ◌<◌, ℕ, true}
use Rattle.classes.specs.Jumps.{has_bucket}
use Rattle.classes.proofs.jumps.have_each.Given as goal

abbrev pub invariant-loop-one : goal.invariant-loop-one
invariant-loop-one l = (i : ℕ) → i < l.one → has_bucket l.others i ≡ true → has_bucket l.buckets i ≡ true
