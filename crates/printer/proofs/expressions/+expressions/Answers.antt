use Rattle.std.proofs.Common.{◌≡◌, ◌∷◌, map, refl, ap, sym, subst, ◌∙◌, arith, OnOk}
use Rattle.printer.specs.Layout.{writes, Fixed}
use Rattle.syntax.specs.declared.terminal.Terminal.TheVariants as T
use Rattle.printer.specs.Printing.{args_lexemes, more_args_lexemes, expr_lexemes}
use Rattle.syntax.specs.Trees.{NewE}
use Rattle.syntax.specs.Views.{expr_tree, exprs_from}
use Rattle.syntax.proofs.Bridge.{view_call, view_new}
use Rattle.printer.proofs.Writing.{item_step, item_end, item_none, writes_one, writes_both, writes_none}
use Rattle.printer.proofs.expressions.+expressions.Goals as goal

pub write_args-loop-arg-preserved : goal.write_args-loop-arg-preserved
write_args-loop-arg-preserved t c =
    item_step (λ z. more_args_lexemes (exprs_from (map expr_tree z))) (λ x. Fixed T.Comma ∷ expr_lexemes (expr_tree x)) (λ x xs. refl)
    c.in-Some.rest.now c.loop-arg.arg-index c.arg-item.result c.loop-arg.to c.write_expr-in-loop-arg.new.to (writes c.args.to.now (args_lexemes (exprs_from (map expr_tree c.args.args.now))))
    c.loop-arg-test.true c.arg-item.is c.loop-arg.invariant
    (c.in_ok-write_expr-2.ensures ∙ ap (λ p. writes p (expr_lexemes (expr_tree c.arg-item.result))) c.in_ok-terminal.ensures.put ∙ sym (writes_one c.loop-arg.to (Fixed T.Comma) (expr_lexemes (expr_tree c.arg-item.result))))

pub write_args-returns : goal.write_args-returns
write_args-returns t c =
    item_end (λ z. more_args_lexemes (exprs_from (map expr_tree z))) refl
    c.in-Some.rest.now c.loop-arg.arg-index c.loop-arg.to (writes c.args.to.now (args_lexemes (exprs_from (map expr_tree c.args.args.now))))
    c.loop-arg-test.false c.loop-arg.invariant

pub write_args-returns-in_default : goal.write_args-returns-in_default
write_args-returns-in_default t c = item_none (λ z. args_lexemes (exprs_from (map expr_tree z))) refl c.args.args.now c.args.to.now (c.in_default.ensures.cases)

pub write_expr-returns-in_ok-write_dotted-in-Call : goal.write_expr-returns-in_ok-write_dotted-in-Call
write_expr-returns-in_ok-write_dotted-in-Call t c =
    let e = ap (λ x. expr_lexemes (expr_tree x)) c.in-Call.is ∙ ap expr_lexemes (view_call c.in-Call.receiver c.in-Call.name c.in-Call.args) in
    grind (arith, writes_one, writes_both, writes_none)

pub write_expr-returns-in-New : goal.write_expr-returns-in-New
write_expr-returns-in-New t c =
    let e = ap (λ x. expr_lexemes (expr_tree x)) c.in-New.is ∙ ap expr_lexemes (view_new c.in-New.class c.in-New.args c.in-New.field-2) in
    subst (λ z. OnOk c.write_new.result (c.write_new.new.to ≡ writes c.args.to.now z))
    (ap (λ z. expr_lexemes (NewE c.in-New.class (exprs_from (map expr_tree z)) 0)) c.deref-in-New.ensures.value ∙ sym e)
    c.write_new.ensures
