use Rattle.std.proofs.Common.{ap, ◌∙◌, arith}
use Rattle.core_program.specs.Sizes.{stmt_nodes, stmt_nodes_each}
use Rattle.core_program.specs.Views.{stmt_of, stmts_from}
use Rattle.core_program.proofs.ViewLemmas.{stmt_of-Block}
use Rattle.rules.proofs.Blocks.{stmt_lighter}
use Rattle.rules.proofs.Weights.{stmt_weight, stmts_weight}
use Rattle.refutation.proofs.work.+statement_cost.Goals as goal

pub statement_cost-block_cost-requires : goal.statement_cost-block_cost-requires
statement_cost-block_cost-requires t c =
    let e = ap (λ x. stmt_weight (stmt_of x)) c.in-Block.is ∙ ap stmt_weight (stmt_of-Block c.in-Block.body) in
    let s = ap (λ xs. stmts_weight (stmts_from xs)) c.as_slice.ensures.value in
    (omega arith, tt)

pub block_cost-statement_cost-requires : goal.block_cost-statement_cost-requires
block_cost-statement_cost-requires t c =
    let lighter = stmt_lighter c.args.statements.now c.loop-s.s-index c.s-item.result c.loop-s-test.true c.s-item.is in
    (omega arith, tt)

pub statement_cost-returns-in-Block : goal.statement_cost-returns-in-Block
statement_cost-returns-in-Block t c =
    let e = ap (λ x. stmt_nodes (stmt_of x)) c.in-Block.is ∙ ap stmt_nodes (stmt_of-Block c.in-Block.body) in
    let s = ap (λ xs. stmt_nodes_each (stmts_from xs)) c.as_slice.ensures.value in
    omega (arith, e, s, c.block_cost.ensures, c.saturating_add.ensures)
