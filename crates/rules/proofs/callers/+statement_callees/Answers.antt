use Rattle.std.proofs.Common.{sym, ap, ◌∙◌, arith}
use Rattle.core_program.specs.Views.{stmt_of, stmts_from}
use Rattle.core_program.proofs.ViewLemmas.{stmt_of-Block}
use Rattle.rules.specs.Called.{stmt_callees, block_callees}
use Rattle.rules.proofs.Blocks.{stmt_lighter}
use Rattle.rules.proofs.CalleeLemmas.{put_parts_of}
use Rattle.rules.proofs.Weights.{stmt_weight, stmts_weight}
use Rattle.rules.proofs.callers.+statement_callees.Goals as goal

pub put_stmt-put_block-requires : goal.put_stmt-put_block-requires
put_stmt-put_block-requires t c =
    let e = ap (λ x. stmt_weight (stmt_of x)) c.in-Block.is ∙ ap stmt_weight (stmt_of-Block c.in-Block.body) in
    let s = ap (λ xs. stmts_weight (stmts_from xs)) c.as_slice.ensures.value in
    (omega arith, tt)

pub put_stmt-returns-in-Block : goal.put_stmt-returns-in-Block
put_stmt-returns-in-Block t c =
    let e = ap stmt_of c.in-Block.is ∙ stmt_of-Block c.in-Block.body in
    put_parts_of c.put_block.result c.args.callees.now.items c.put_block.new.callees.items
    (ap (λ xs. block_callees (stmts_from xs)) c.as_slice.ensures.value ∙ ap stmt_callees (sym e)) c.put_block.ensures

pub put_block-put_stmt-requires : goal.put_block-put_stmt-requires
put_block-put_stmt-requires t c =
    let lighter = stmt_lighter c.args.statements.now c.loop-s.s-index c.s-item.result c.loop-s-test.true c.s-item.is in
    (omega arith, tt)
