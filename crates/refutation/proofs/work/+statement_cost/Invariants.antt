use Rattle.std.proofs.Common.{◌+◌, ◌*◌, ◌≤◌, drop}
use Rattle.core_program.specs.Sizes.{stmt_nodes_each}
use Rattle.core_program.specs.Views.{stmt_of, stmts_from}
use Rattle.rules.proofs.Weights.{stmt_weight, stmts_weight}
use Rattle.refutation.proofs.work.+statement_cost.Given as goal

abbrev pub decreases-statement_cost : goal.decreases-statement_cost
decreases-statement_cost l = stmt_weight (stmt_of l.s.now)

abbrev pub decreases-block_cost : goal.decreases-block_cost
decreases-block_cost l = stmts_weight (stmts_from l.statements.now)

-- the work so far, and at most that of the rest, is at most that of all
abbrev pub invariant-block_cost-loop-s : goal.invariant-block_cost-loop-s
invariant-block_cost-loop-s l = l.cost + 8 * stmt_nodes_each (stmts_from (drop l.s-index l.statements)) ≤ 8 * stmt_nodes_each (stmts_from l.statements)
