-- The statements of a block are lighter than it.
use Rattle.std.proofs.Common.{◌≡◌, ℕ, zero, suc, ◌+◌, ◌<◌, ◌≤◌, List, [], ◌∷◌, length, drop, get_or, ap, arith}
use Rattle.base.proofs.Lists.{next_drop}
use Rattle.core_program.specs.declared.tree.CoreStmt.{CoreStmt}
use Rattle.core_program.specs.Views.{stmt_of, stmts_from}
use Rattle.rules.proofs.Weights.{stmt_weight, stmts_weight}

rest_lighter : (ss : List CoreStmt) (k : ℕ) → stmts_weight (stmts_from (drop k ss)) ≤ stmts_weight (stmts_from ss)
rest_lighter ss zero = omega arith
rest_lighter [] (suc k) = omega arith
rest_lighter (s ∷ ss) (suc k) = let rest = rest_lighter ss k in omega arith

-- the measure falls from a block to a statement of it
pub stmt_lighter : (ss : List CoreStmt) (k : ℕ) (s : CoreStmt) → k < length ss → s ≡ get_or ss k s → 1 + stmt_weight (stmt_of s) < stmts_weight (stmts_from ss)
stmt_lighter ss k s below is =
    let here = ap (λ l. stmts_weight (stmts_from l)) (next_drop ss k s below is) in
    let rest = rest_lighter ss k in
    omega arith
