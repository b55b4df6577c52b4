use Rattle.std.proofs.Common.{◌≡◌, ◌++◌, drop, map}
use Rattle.classes.specs.Climbs.{joined_climb}
use Rattle.classes.proofs.climbs.joined_climbs.Given as goal

abbrev pub invariant-loop-first : goal.invariant-loop-first
invariant-loop-first l = l.climbs.items ++ map (joined_climb l.nexts) (drop l.first-index l.firsts) ≡ map (joined_climb l.nexts) l.firsts
