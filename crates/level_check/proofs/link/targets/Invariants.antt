use Rattle.std.proofs.Common.{◌≡◌, map, take}
use Rattle.level_check.proofs.link.targets.Given as goal

-- the cells of the links so far
abbrev pub invariant-loop-link : goal.invariant-loop-link
invariant-loop-link l = l.targets.items ≡ map (λ z. z.to) (take l.link-index l.links)
