use Rattle.rules.specs.Near.{rel_of}
use Rattle.rules.specs.Search.{row_at}
use Rattle.level_check.specs.Told.{origin_in}
use Rattle.level_check.proofs.Beginnings.{AreFirst}
use Rattle.level_check.proofs.origins.origins.Given as goal

-- the origins for the methods so far
abbrev pub invariant-loop-place : goal.invariant-loop-place
invariant-loop-place l = AreFirst (rel_of l.sets) (row_at l.over) l.place (origin_in l.origins.entries)
