use Rattle.std.proofs.Common.{◌≡◌, ◌+◌, ◌++◌, drop}
use Rattle.std.specs.Prelude.{map}
use Rattle.algebra.specs.HeldPaths.{has_path}
use Rattle.core_program.specs.Views.{stmts_from}
use Rattle.levels.specs.Walks.{syncs_in_each}
use Rattle.level_check.specs.Told.{told_level_of, block_told}
use Rattle.level_check.proofs.statements.+statements.Given as goal

-- what was told so far and what the rest tells is what all tell; and the place so far and what the rest has are those of all
abbrev pub invariant-walk_block-loop-s : goal.invariant-walk_block-loop-s
invariant-walk_block-loop-s l =
    (map told_level_of l.seen.items ++ block_told l.walk (stmts_from (drop l.s-index l.body)) l.place (has_path l.now.items) l.carried.under ≡ map told_level_of l.fn.seen.items ++ block_told l.walk (stmts_from l.body) l.fn.place (has_path l.carried.held.now) l.carried.under)
    × (l.place + syncs_in_each (stmts_from (drop l.s-index l.body)) ≡ l.fn.place + syncs_in_each (stmts_from l.body))
