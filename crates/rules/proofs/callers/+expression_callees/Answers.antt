use Rattle.std.proofs.Common.{◌++◌, sym, ap, ◌∙◌, arith}
use Rattle.core_program.specs.Views.{expr_of, exprs_from}
use Rattle.core_program.proofs.ViewLemmas.{expr_of-Call, expr_of-New}
use Rattle.rules.specs.Called.{expr_callees, exprs_callees}
use Rattle.rules.proofs.CalleeLemmas.{put_call, put_parts_of}
use Rattle.rules.proofs.Weights.{weight_of, weights_of}
use Rattle.rules.proofs.callers.+expression_callees.Goals as goal

pub put_expr-put_exprs-requires : goal.put_expr-put_exprs-requires
put_expr-put_exprs-requires t c =
    let e = ap (λ x. weight_of (expr_of x)) c.in-Call.is ∙ ap weight_of (expr_of-Call c.in-Call.a c.in-Call.m c.in-Call.args) in
    let s = ap (λ xs. weights_of (exprs_from xs)) c.as_slice.ensures.value in
    (omega arith, tt)

pub put_expr-put_exprs-requires-in-New : goal.put_expr-put_exprs-requires-in-New
put_expr-put_exprs-requires-in-New t c =
    let e = ap (λ x. weight_of (expr_of x)) c.in-New.is ∙ ap weight_of (expr_of-New c.in-New.field-0 c.in-New.args) in
    let s = ap (λ xs. weights_of (exprs_from xs)) c.as_slice-in-New.ensures.value in
    (omega arith, tt)

pub put_expr-returns-in_ok-put_expr-in-Call : goal.put_expr-returns-in_ok-put_expr-in-Call
put_expr-returns-in_ok-put_expr-in-Call t c =
    let e = ap expr_of c.in-Call.is ∙ expr_of-Call c.in-Call.a c.in-Call.m c.in-Call.args in
    put_call c.put_exprs.result c.args.callees.now.items c.push.new.self.items c.put_expr.new.callees.items c.put_exprs.new.callees.items c.in-Call.m
    (expr_callees (expr_of c.in-Call.a.value)) (exprs_callees (exprs_from c.as_slice.result.now)) (exprs_callees (exprs_from c.in-Call.args.items)) (expr_callees (expr_of c.args.e.now))
    c.in_ok-push-in-Call.ensures.items (c.in_ok-put_expr-in-Call.ensures ∙ ap (λ x. c.push.new.self.items ++ expr_callees (expr_of x)) c.deref.ensures)
    (ap (λ xs. exprs_callees (exprs_from xs)) c.as_slice.ensures.value) (ap expr_callees e) c.put_exprs.ensures

pub put_expr-returns-in-New : goal.put_expr-returns-in-New
put_expr-returns-in-New t c =
    let e = ap expr_of c.in-New.is ∙ expr_of-New c.in-New.field-0 c.in-New.args in
    put_parts_of c.put_exprs-in-New.result c.args.callees.now.items c.put_exprs-in-New.new.callees.items
    (ap (λ xs. exprs_callees (exprs_from xs)) c.as_slice-in-New.ensures.value ∙ ap expr_callees (sym e)) c.put_exprs-in-New.ensures
