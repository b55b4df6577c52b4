use Rattle.std.proofs.Common.{◌≡◌, ◌++◌, drop}
use Rattle.effects.specs.HeldLists.{local_names}
use Rattle.level_check.proofs.passed.add_local_names.Given as goal

-- the names so far and those of the rest are those of all
abbrev pub invariant-loop-path : goal.invariant-loop-path
invariant-loop-path l = l.names.items ++ local_names l.slot l.start (drop l.path-index l.held) ≡ l.fn.names.items ++ local_names l.slot l.start l.held
