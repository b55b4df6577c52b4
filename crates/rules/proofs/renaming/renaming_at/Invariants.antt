use Rattle.std.proofs.Common.{◌≡◌, map, take}
use Rattle.paths.specs.Renamings.{under_call}
use Rattle.rules.proofs.renaming.renaming_at.Given as goal

-- the pairs of the paths so far
abbrev pub invariant-loop-path : goal.invariant-loop-path
invariant-loop-path l = l.pairs.items ≡ map (λ q. (q, under_call l.receiver_path l.arg_paths.items q)) (take l.path-index l.path-items)
