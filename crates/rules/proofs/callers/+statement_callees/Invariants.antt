use Rattle.std.proofs.Common.{◌≡◌, ◌++◌, drop}
use Rattle.core_program.specs.Views.{stmt_of, stmts_from}
use Rattle.rules.specs.Called.{block_callees}
use Rattle.rules.proofs.Weights.{stmt_weight, stmts_weight}
use Rattle.rules.proofs.callers.+statement_callees.Given as goal

abbrev pub decreases-put_stmt : goal.decreases-put_stmt
decreases-put_stmt l = stmt_weight (stmt_of l.s.now)

abbrev pub decreases-put_block : goal.decreases-put_block
decreases-put_block l = stmts_weight (stmts_from l.statements.now)

-- the callees so far, and then those of the rest, are all
abbrev pub invariant-put_block-loop-s : goal.invariant-put_block-loop-s
invariant-put_block-loop-s l = l.callees.items ++ block_callees (stmts_from (drop l.s-index l.statements)) ≡ l.fn.callees.items ++ block_callees (stmts_from l.statements)
