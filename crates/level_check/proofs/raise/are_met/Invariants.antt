use Rattle.std.proofs.Common.{◌≡◌, drop}
use Rattle.level_check.specs.Rises.{are_met}
use Rattle.level_check.proofs.raise.are_met.Given as goal

-- the answer for the rest is that for all
abbrev pub invariant-loop-link : goal.invariant-loop-link
invariant-loop-link l = are_met l.levels l.from (drop l.link-index l.links) ≡ are_met l.levels l.from l.links
