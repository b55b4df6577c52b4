use Rattle.std.proofs.Common.{◌≡◌, ◌<◌, ℕ, false}
use Rattle.rules.specs.Limits.{is_crowded}
use Rattle.rules.proofs.relevance.first_crowded.Given as goal

-- no method so far is past the limit
abbrev pub invariant-loop-place : goal.invariant-loop-place
invariant-loop-place l = (k : ℕ) → k < l.place → is_crowded l.sets k ≡ false
