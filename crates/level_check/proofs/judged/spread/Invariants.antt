use Rattle.std.proofs.Common.{◌≡◌, ◌++◌, drop, map}
use Rattle.algebra.specs.HeldPaths.{has_path}
use Rattle.rules.specs.Near.{rel_of}
use Rattle.rules.specs.Search.{row_at}
use Rattle.level_check.specs.Told.{Calls, any_of, told_level_of}
use Rattle.level_check.specs.Bodies.{spread_told}
use Rattle.level_check.proofs.judged.spread.Given as goal

-- what was told so far, and what the overriding methods that are left tell, is all
abbrev pub invariant-loop-over : goal.invariant-loop-over
invariant-loop-over l = map told_level_of l.seen.items ++ map (λ k. Calls (any_of k) (has_path l.held) 0) (drop l.over-index l.over-items) ≡ spread_told (rel_of l.judged.sets.now) (row_at l.judged.over.now) l.fn.method (has_path l.held)
