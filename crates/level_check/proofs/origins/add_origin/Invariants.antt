use Rattle.std.proofs.Common.{take}
use Rattle.rules.specs.Near.{rel_of}
use Rattle.level_check.specs.Told.{origin_in}
use Rattle.level_check.specs.Origins.{AddsPaths}
use Rattle.level_check.proofs.origins.add_origin.Given as goal

-- the paths so far were added
abbrev pub invariant-loop-path : goal.invariant-loop-path
invariant-loop-path l = AddsPaths (rel_of l.sets) l.method (take l.path-index l.path-items) (origin_in l.fn.origins.entries) (origin_in l.origins.entries)
