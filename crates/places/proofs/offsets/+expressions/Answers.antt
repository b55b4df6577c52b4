use Rattle.std.proofs.Common.{◌≡◌, map, ap, ◌∙◌, subst, OnOk}
use Rattle.syntax.specs.Views.{expr_tree, exprs_from}
use Rattle.syntax.proofs.Bridge.{view_call, view_new}
use Rattle.places.proofs.Putting.{put_call, put_new}
use Rattle.places.proofs.offsets.+expressions.Goals as goal

pub add_expr-returns-in_ok-add_expr-in-Call : goal.add_expr-returns-in_ok-add_expr-in-Call
add_expr-returns-in_ok-add_expr-in-Call t c =
    subst (λ z. OnOk c.add_exprs.result (c.add_exprs.new.places.items ≡ z))
    (put_call c.args.places.now.items c.push.new.self.items c.add_expr-in-Call.new.places.items c.expr_place.result (expr_tree c.in-Call.receiver.value)
    (expr_tree c.deref-in-Call.result.now) c.in-Call.field-1 (exprs_from (map expr_tree c.in-Call.args.items)) (exprs_from (map expr_tree c.as_slice.result.now))
    (expr_tree c.args.e.now) c.in_ok-push.ensures.items c.expr_place.ensures c.in_ok-add_expr-in-Call.ensures (ap expr_tree c.deref-in-Call.ensures)
    (ap (λ xs. exprs_from (map expr_tree xs)) c.as_slice.ensures.value)
    (ap expr_tree c.in-Call.is ∙ view_call c.in-Call.receiver c.in-Call.field-1 c.in-Call.args))
    c.add_exprs.ensures

pub add_expr-returns-in-New : goal.add_expr-returns-in-New
add_expr-returns-in-New t c =
    subst (λ z. OnOk c.add_exprs-in-New.result (c.add_exprs-in-New.new.places.items ≡ z))
    (put_new c.args.places.now.items c.push.new.self.items c.expr_place.result c.in-New.field-0 (exprs_from (map expr_tree c.in-New.args.items))
    (exprs_from (map expr_tree c.as_slice-in-New.result.now)) c.in-New.field-2 (expr_tree c.args.e.now) c.in_ok-push.ensures.items c.expr_place.ensures
    (ap (λ xs. exprs_from (map expr_tree xs)) c.as_slice-in-New.ensures.value)
    (ap expr_tree c.in-New.is ∙ view_new c.in-New.field-0 c.in-New.args c.in-New.field-2))
    c.add_exprs-in-New.ensures
