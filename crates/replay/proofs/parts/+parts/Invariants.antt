use Rattle.std.proofs.Common.{◌≡◌, ◌+◌, ◌*◌, ◌≤◌, drop}
use Rattle.core_program.specs.Core.{WhileS}
use Rattle.core_program.specs.Sizes.{nodes_of, nodes_of_each, stmt_nodes, stmt_nodes_each}
use Rattle.core_program.specs.Views.{program_of, expr_of, exprs_from, stmt_of, stmts_from}
use Rattle.replay.specs.Evaluating.{exprs_answer, stmt_answer, block_answer}
use Rattle.replay.proofs.Sizes.{all_nodes}
use Rattle.replay.proofs.parts.+parts.Given as goal

-- The measures: turns first, and then the nodes of the part.
abbrev pub decreases-expr : goal.decreases-expr
decreases-expr l = l.at.now.turns * (4 * all_nodes l.at.now.program.now.methods.items) + 4 * nodes_of (expr_of l.e.now)

abbrev pub decreases-called : goal.decreases-called
decreases-called l = l.at.now.turns * (4 * all_nodes l.at.now.program.now.methods.items) + (4 * (nodes_of (expr_of l.receiver.now) + nodes_of_each (exprs_from l.args.now)) + 3)

abbrev pub decreases-made : goal.decreases-made
decreases-made l = l.at.now.turns * (4 * all_nodes l.at.now.program.now.methods.items) + (4 * nodes_of_each (exprs_from l.args.now) + 3)

abbrev pub decreases-all_arguments : goal.decreases-all_arguments
decreases-all_arguments l = l.at.now.turns * (4 * all_nodes l.at.now.program.now.methods.items) + (4 * nodes_of_each (exprs_from l.args.now) + 2)

abbrev pub decreases-arguments : goal.decreases-arguments
decreases-arguments l = l.at.now.turns * (4 * all_nodes l.at.now.program.now.methods.items) + (4 * nodes_of_each (exprs_from l.args.now) + 1)

abbrev pub decreases-enter : goal.decreases-enter
decreases-enter l = l.at.now.turns * (4 * all_nodes l.at.now.program.now.methods.items) + 2

abbrev pub decreases-run_body : goal.decreases-run_body
decreases-run_body l = l.at.now.turns * (4 * all_nodes l.at.now.program.now.methods.items) + 1

abbrev pub decreases-statement : goal.decreases-statement
decreases-statement l = l.at.now.turns * (4 * all_nodes l.at.now.program.now.methods.items) + 4 * stmt_nodes (stmt_of l.s.now)

abbrev pub decreases-block : goal.decreases-block
decreases-block l = l.at.now.turns * (4 * all_nodes l.at.now.program.now.methods.items) + (4 * stmt_nodes_each (stmts_from l.body.now) + 1)

abbrev pub decreases-branched : goal.decreases-branched
decreases-branched l = l.at.now.turns * (4 * all_nodes l.at.now.program.now.methods.items)
    + (4 * (nodes_of (expr_of l.condition.now) + (stmt_nodes (stmt_of l.one.now) + stmt_nodes (stmt_of l.other.now))) + 3)

abbrev pub decreases-looped : goal.decreases-looped
decreases-looped l = l.at.now.turns * (4 * all_nodes l.at.now.program.now.methods.items) + (4 * (nodes_of (expr_of l.condition.now) + stmt_nodes (stmt_of l.body.now)) + 3)

abbrev pub decreases-synchronized : goal.decreases-synchronized
decreases-synchronized l = l.at.now.turns * (4 * all_nodes l.at.now.program.now.methods.items) + (4 * stmt_nodes (stmt_of l.body.now) + 1)

-- The loops: what the rest gives is what all gives.
abbrev pub invariant-arguments-loop-e : goal.invariant-arguments-loop-e
invariant-arguments-loop-e l = exprs_answer (program_of l.at.program.now) l.at.thread l.at.turns l.at.depth l.slots l.values.items (exprs_from (drop l.e-index l.args)) l.plain
    ≡ exprs_answer (program_of l.at.program.now) l.at.thread l.at.turns l.at.depth l.slots l.fn.values.items (exprs_from l.args) l.fn.plain

abbrev pub invariant-block-loop-s : goal.invariant-block-loop-s
invariant-block-loop-s l = block_answer (program_of l.at.program.now) l.at.thread l.at.turns l.at.depth l.slots (stmts_from (drop l.s-index l.body)) l.plain
    ≡ block_answer (program_of l.at.program.now) l.at.thread l.at.turns l.at.depth l.fn.slots (stmts_from l.body) l.fn.plain

abbrev pub invariant-looped-turn : goal.invariant-looped-turn
invariant-looped-turn l = (l.left ≤ l.at.turns)
    × (stmt_answer (program_of l.at.program.now) l.at.thread l.at.turns l.at.depth l.fn.slots (WhileS (expr_of l.condition) (stmt_of l.body)) l.fn.plain
    ≡ stmt_answer (program_of l.at.program.now) l.at.thread l.left l.at.depth l.slots (WhileS (expr_of l.condition) (stmt_of l.body)) l.plain)

abbrev pub decreases-looped-turn : goal.decreases-looped-turn
decreases-looped-turn l = l.left
