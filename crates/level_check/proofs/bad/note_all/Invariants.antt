use Rattle.std.proofs.Common.{◌≡◌, drop, map}
use Rattle.level_check.specs.Told.{told_level_of}
use Rattle.level_check.specs.Bad.{firsts, bads_in}
use Rattle.level_check.proofs.bad.note_all.Given as goal

-- the first of those so far and of the rest is the first of all
abbrev pub invariant-loop-visit : goal.invariant-loop-visit
invariant-loop-visit l = firsts l.first (bads_in l.method (map told_level_of (drop l.visit-index l.seen))) ≡ firsts l.fn.first (bads_in l.method (map told_level_of l.seen))
