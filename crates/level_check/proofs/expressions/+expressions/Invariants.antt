use Rattle.std.proofs.Common.{◌≡◌, ◌++◌, drop}
use Rattle.std.specs.Prelude.{map}
use Rattle.algebra.specs.HeldPaths.{has_path}
use Rattle.core_program.specs.Views.{exprs_from}
use Rattle.level_check.specs.Told.{told_level_of, exprs_told}
use Rattle.level_check.proofs.expressions.+expressions.Given as goal

-- what was told so far and what the rest tells is what all tell
abbrev pub invariant-walk_exprs-loop-e : goal.invariant-walk_exprs-loop-e
invariant-walk_exprs-loop-e l = map told_level_of l.seen.items ++ exprs_told l.walk (exprs_from (drop l.e-index l.es)) (has_path l.carried.held.now) l.carried.under ≡ map told_level_of l.fn.seen.items ++ exprs_told l.walk (exprs_from l.es) (has_path l.carried.held.now) l.carried.under
