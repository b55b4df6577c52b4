use Rattle.std.proofs.Common.{ap, ◌∙◌, arith}
use Rattle.core_program.specs.Sizes.{nodes_of, nodes_of_each}
use Rattle.core_program.specs.Views.{expr_of, exprs_from}
use Rattle.core_program.proofs.ViewLemmas.{expr_of-Call, expr_of-New}
use Rattle.rules.proofs.Weights.{weight_of, weights_of}
use Rattle.refutation.proofs.work.+expression_cost.Goals as goal

pub expression_cost-arguments_cost-requires : goal.expression_cost-arguments_cost-requires
expression_cost-arguments_cost-requires t c =
    let e = ap (λ x. weight_of (expr_of x)) c.in-Call.is ∙ ap weight_of (expr_of-Call c.in-Call.a c.in-Call.field-1 c.in-Call.args) in
    let s = ap (λ xs. weights_of (exprs_from xs)) c.as_slice.ensures.value in
    (omega arith, tt)

pub expression_cost-arguments_cost-requires-in-New : goal.expression_cost-arguments_cost-requires-in-New
expression_cost-arguments_cost-requires-in-New t c =
    let e = ap (λ x. weight_of (expr_of x)) c.in-New.is ∙ ap weight_of (expr_of-New c.in-New.field-0 c.in-New.args) in
    let s = ap (λ xs. weights_of (exprs_from xs)) c.as_slice-in-New.ensures.value in
    (omega arith, tt)

pub expression_cost-returns-in-Call : goal.expression_cost-returns-in-Call
expression_cost-returns-in-Call t c =
    let e = ap (λ x. nodes_of (expr_of x)) c.in-Call.is ∙ ap nodes_of (expr_of-Call c.in-Call.a c.in-Call.field-1 c.in-Call.args) in
    let s = ap (λ xs. nodes_of_each (exprs_from xs)) c.as_slice.ensures.value in
    let a = ap (λ x. nodes_of (expr_of x)) c.deref.ensures in
    omega (arith, e, s, a, c.expression_cost.ensures, c.arguments_cost.ensures, c.saturating_add.ensures, c.saturating_add-in-Call.ensures)

pub expression_cost-returns-in-New : goal.expression_cost-returns-in-New
expression_cost-returns-in-New t c =
    let e = ap (λ x. nodes_of (expr_of x)) c.in-New.is ∙ ap nodes_of (expr_of-New c.in-New.field-0 c.in-New.args) in
    let s = ap (λ xs. nodes_of_each (exprs_from xs)) c.as_slice-in-New.ensures.value in
    omega (arith, e, s, c.arguments_cost-in-New.ensures, c.saturating_add-in-New.ensures)
