use Rattle.std.proofs.Common.{take}
use Rattle.rules.specs.Near.{rel_of}
use Rattle.level_check.specs.Told.{origin_in}
use Rattle.level_check.specs.Origins.{AddsOrigins}
use Rattle.level_check.proofs.origins.add_origins.Given as goal

-- the origins of those so far were added
abbrev pub invariant-loop-next : goal.invariant-loop-next
invariant-loop-next l = AddsOrigins (rel_of l.sets) l.method (take l.next-index l.next-items) (origin_in l.fn.origins.entries) (origin_in l.origins.entries)
