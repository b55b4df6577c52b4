use Rattle.std.proofs.Common.{◌≡◌, drop}
use Rattle.level_check.specs.Rises.{all_raised}
use Rattle.level_check.proofs.raise.raise_all.Given as goal

-- what the rest makes of the levels so far is what all make
abbrev pub invariant-loop-link : goal.invariant-loop-link
invariant-loop-link l = all_raised l.levels l.from (drop l.link-index l.links) ≡ all_raised l.fn.levels l.from l.links
