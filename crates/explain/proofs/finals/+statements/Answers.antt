use Rattle.std.proofs.Common.{ap, ◌∙◌, arith}
use Rattle.core_program.proofs.ViewLemmas.{stmt_of-Block}
use Rattle.core_program.specs.Views.{stmt_of, stmts_from}
use Rattle.explain.specs.Finalising.{final_stmts}
use Rattle.explain.proofs.FinalParts.{block_final}
use Rattle.explain.proofs.Measures.{stmt_measure, stmts_measure, stmt_lighter}
use Rattle.explain.proofs.finals.+statements.Goals as goal

pub final_stmt-final_stmts-requires : goal.final_stmt-final_stmts-requires
final_stmt-final_stmts-requires t c =
    let s = ap (λ x. stmt_measure (stmt_of x)) c.in-Block.is ∙ ap stmt_measure (stmt_of-Block c.in-Block.body) in
    let ss = ap (λ xs. stmts_measure (stmts_from xs)) c.as_slice.ensures.value in
    (omega arith, tt)

pub final_stmts-final_stmt-requires : goal.final_stmts-final_stmt-requires
final_stmts-final_stmt-requires t c =
    let lighter = stmt_lighter c.args.body.now c.loop-s.s-index c.s-item.result c.loop-s-test.true c.s-item.is in
    (omega arith, tt)

pub final_stmt-returns-in_ok-made-in-Block : goal.final_stmt-returns-in_ok-made-in-Block
final_stmt-returns-in_ok-made-in-Block t c =
    block_final c.args.slot c.args.s.now c.in-Block.body c.in_ok-made-in-Block.made c.in-Block.is
    (c.in_ok-made-in-Block.ensures ∙ ap (λ z. final_stmts c.args.slot (stmts_from z)) c.as_slice.ensures.value)
