use Rattle.std.proofs.Common.{ap, ◌∙◌, arith}
use Rattle.core_program.proofs.ViewLemmas.{expr_of-Call, expr_of-New}
use Rattle.core_program.specs.Views.{expr_of, exprs_from}
use Rattle.explain.specs.Finalising.{final_expr, final_exprs}
use Rattle.explain.proofs.FinalParts.{call_final, new_final}
use Rattle.explain.proofs.Measures.{expr_measure, exprs_measure, expr_lighter}
use Rattle.explain.proofs.finals.+expressions.Goals as goal

pub final_expr-call_parts-requires : goal.final_expr-call_parts-requires
final_expr-call_parts-requires t c =
    let e = ap (λ x. expr_measure (expr_of x)) c.in-Call.is ∙ ap expr_measure (expr_of-Call c.in-Call.a c.in-Call.callee c.in-Call.args) in
    let a = ap (λ x. expr_measure (expr_of x)) c.deref-in-Call.ensures in
    let es = ap (λ xs. exprs_measure (exprs_from xs)) c.as_slice.ensures.value in
    (omega arith, tt)

pub final_expr-final_exprs-requires : goal.final_expr-final_exprs-requires
final_expr-final_exprs-requires t c =
    let e = ap (λ x. expr_measure (expr_of x)) c.in-New.is ∙ ap expr_measure (expr_of-New c.in-New.class c.in-New.args) in
    let es = ap (λ xs. exprs_measure (exprs_from xs)) c.as_slice-in-New.ensures.value in
    (omega arith, tt)

pub final_exprs-final_expr-requires : goal.final_exprs-final_expr-requires
final_exprs-final_expr-requires t c =
    let lighter = expr_lighter c.args.es.now c.loop-e.e-index c.e-item.result c.loop-e-test.true c.e-item.is in
    (omega arith, tt)

pub final_expr-returns-in_ok-parts-in-Call : goal.final_expr-returns-in_ok-parts-in-Call
final_expr-returns-in_ok-parts-in-Call t c =
    call_final c.args.slot c.in-Call.callee c.args.e.now c.call_node.result c.in-Call.a c.in-Call.args _ _ c.in-Call.is c.call_node.ensures
    (c.in_ok-parts-in-Call.ensures.receiver ∙ ap (λ z. final_expr c.args.slot (expr_of z)) c.deref-in-Call.ensures)
    (c.in_ok-parts-in-Call.ensures.args ∙ ap (λ z. final_exprs c.args.slot (exprs_from z)) c.as_slice.ensures.value)

pub final_expr-returns-in_ok-passed-in-New : goal.final_expr-returns-in_ok-passed-in-New
final_expr-returns-in_ok-passed-in-New t c =
    new_final c.args.slot c.in-New.class c.args.e.now c.new_node.result c.in-New.args _ c.in-New.is c.new_node.ensures
    (c.in_ok-passed-in-New.ensures ∙ ap (λ z. final_exprs c.args.slot (exprs_from z)) c.as_slice-in-New.ensures.value)
