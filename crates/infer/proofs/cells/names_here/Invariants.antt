use Rattle.std.proofs.Common.{◌≡◌, ◌++◌, map, take}
use Rattle.infer.specs.Names.{known_name}
use Rattle.infer.proofs.cells.names_here.Given as goal

-- the paths so far with their names
abbrev pub invariant-loop-path : goal.invariant-loop-path
invariant-loop-path l = l.names.items ≡ map (λ q. (q, known_name (l.required ++ l.relevant) q)) (take l.path-index l.paths)
