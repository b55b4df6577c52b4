use Rattle.std.proofs.Common.{◌≡◌, ◌++◌, drop}
use Rattle.std.specs.Option.{option_copied}
use Rattle.infer.specs.Names.{names_from_slot}
use Rattle.infer.proofs.local.add_names.Given as goal

-- the names so far and those of the rest are those of all
abbrev pub invariant-loop-path : goal.invariant-loop-path
invariant-loop-path l = l.pairs.items ++ names_from_slot l.slot (option_copied l.value) (drop l.path-index l.paths) ≡ l.fn.pairs.items ++ names_from_slot l.slot (option_copied l.value) l.paths
