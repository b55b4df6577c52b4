use Rattle.std.proofs.Common.{◌≡◌, drop}
use Rattle.std.specs.Prelude.{find}
use Rattle.algebra.specs.HeldPaths.{has_path}
use Rattle.explain.specs.Names.{names_from}
use Rattle.explain.proofs.names.held_name.Given as goal

-- the first held name from the locals that are left is that from all
abbrev pub invariant-loop-alias : goal.invariant-loop-alias
invariant-loop-alias l = find (has_path l.held) (names_from (drop l.alias-index l.aliases) l.lock) ≡ find (has_path l.held) (names_from l.aliases l.lock)
