use Rattle.std.proofs.Common.{◌≡◌, map, refl, ap, sym, ◌∙◌, subst, IfOk, OnOk, option_map, arith}
use Rattle.std.proofs.Math.ListN.{drop_of_length-le}
use Rattle.classes.specs.Views.{table_data}
use Rattle.syntax.specs.Trees.{CallE, NewE}
use Rattle.syntax.specs.Views.{expr_tree, exprs_from}
use Rattle.syntax.proofs.Bridge.{view_call, view_new}
use Rattle.typing.specs.Exprs.{elaborated, elaborated_each, expr_faults, each_faults}
use Rattle.typing.specs.Gathered.{gathered}
use Rattle.typing.specs.Noted.{type_noted}
use Rattle.typing.specs.Rules.{with_argument}
use Rattle.typing.specs.Views.{boxed_data, typed_data, typed_list}
use Rattle.typing.proofs.Gathering.{so_far}
use Rattle.typing.proofs.Called.{argument_step, argument_fault, all_typed, call_noted}
use Rattle.typing.proofs.Measures.{expr_measure, exprs_measure, expr_lighter}
use Rattle.typing.proofs.exprs.+expressions.Goals as goal

pub expr-call_expr-requires : goal.expr-call_expr-requires
expr-call_expr-requires t c =
    let e = ap (λ x. expr_measure (expr_tree x)) c.in-Call.is ∙ ap expr_measure (view_call c.in-Call.receiver c.in-Call.name c.in-Call.args) in
    let r = ap (λ x. expr_measure (expr_tree x)) c.deref-in-Call.ensures in
    let a = ap (λ xs. exprs_measure (exprs_from (map expr_tree xs))) c.deref-in-Call-2.ensures.value in
    (omega arith, tt)

pub expr-new_expr-requires : goal.expr-new_expr-requires
expr-new_expr-requires t c =
    let e = ap (λ x. expr_measure (expr_tree x)) c.in-New.is ∙ ap expr_measure (view_new c.in-New.name c.in-New.args c.in-New.field-2) in
    let a = ap (λ xs. exprs_measure (exprs_from (map expr_tree xs))) c.deref-in-New.ensures.value in
    (omega arith, tt)

pub arguments-expr-requires : goal.arguments-expr-requires
arguments-expr-requires t c =
    let lighter = expr_lighter c.args.args.now c.loop-arg.arg-index c.arg-item.result c.loop-arg-test.true c.arg-item.is in
    (omega arith, tt)

pub arguments-loop-arg-preserved : goal.arguments-loop-arg-preserved
arguments-loop-arg-preserved t c = (
  argument_step (table_data c.args.environment.now.table.now) c.args.environment.now.class c.args.environment.now.scope.now c.args.args.now c.loop-arg.arg-index c.arg-item.result
      (gathered c.loop-arg.parts) (gathered c.add.new.self) c.in_ok-expr.field-0 (elaborated_each (table_data c.args.environment.now.table.now) c.args.environment.now.class c.args.environment.now.scope.now (exprs_from (map expr_tree c.args.args.now)))
      c.loop-arg-test.true c.arg-item.is c.loop-arg.invariant.0 c.in_ok-expr.ensures.typed c.in_ok-add.ensures,
  argument_fault (table_data c.args.environment.now.table.now) c.args.environment.now.class c.args.environment.now.scope.now c.args.args.now c.loop-arg.arg-index c.arg-item.result
      c.loop-arg.first c.expr.new.first (type_noted c.args.first.now (each_faults (table_data c.args.environment.now.table.now) c.args.environment.now.class c.args.environment.now.scope.now (exprs_from (map expr_tree c.args.args.now))))
      c.loop-arg-test.true c.arg-item.is c.loop-arg.invariant.1 c.in_ok-expr.ensures.fault,
)

pub arguments-returns-clause-typed : goal.arguments-returns-clause-typed
arguments-returns-clause-typed t c =
    all_typed c.all.result (gathered c.loop-arg.parts) (elaborated_each (table_data c.args.environment.now.table.now) c.args.environment.now.class c.args.environment.now.scope.now (exprs_from (map expr_tree c.args.args.now))) c.all.ensures
    (ap (λ z. so_far typed_data with_argument (gathered c.loop-arg.parts) (elaborated_each (table_data c.args.environment.now.table.now) c.args.environment.now.class c.args.environment.now.scope.now (exprs_from (map expr_tree z)))) (sym (drop_of_length-le c.args.args.now c.loop-arg-test.false)) ∙ c.loop-arg.invariant.0)

pub call_expr-returns-clause-fault : goal.call_expr-returns-clause-fault
call_expr-returns-clause-fault t c =
    let T = table_data c.args.environment.now.table.now in
    let C = c.args.environment.now.class in
    let S = c.args.environment.now.scope.now in
    let e = expr_tree c.args.receiver.now in
    let es = exprs_from (map expr_tree c.args.args.now) in
    subst (λ z. OnOk c.call_rule.result (c.call_rule.new.first ≡ z))
    (call_noted T C S (CallE e c.args.name.now es) e c.args.name.now es
    (option_map boxed_data c.in_ok-receiver.receiver) (option_map (λ a. typed_list a.items) c.in_ok-args.args)
    c.args.first.now c.boxed_expr.new.first c.arguments.new.first
    refl c.in_ok-receiver.ensures.typed c.in_ok-args.ensures.typed c.in_ok-receiver.ensures.fault c.in_ok-args.ensures.fault)
    c.call_rule.ensures.fault

pub expr-returns-in-Call-clause-typed : goal.expr-returns-in-Call-clause-typed
expr-returns-in-Call-clause-typed t c =
    subst (λ z. IfOk c.call_expr.result (λ r. option_map typed_data r ≡ elaborated (table_data c.args.environment.now.table.now) c.args.environment.now.class c.args.environment.now.scope.now z))
    (ap (λ z. CallE (expr_tree z) c.in-Call.name (exprs_from (map expr_tree c.deref-in-Call-2.result.now))) c.deref-in-Call.ensures
    ∙ ap (λ z. CallE (expr_tree c.in-Call.receiver.value) c.in-Call.name (exprs_from (map expr_tree z))) c.deref-in-Call-2.ensures.value
    ∙ sym (ap expr_tree c.in-Call.is ∙ view_call c.in-Call.receiver c.in-Call.name c.in-Call.args))
    c.call_expr.ensures.typed

pub expr-returns-in-Call-clause-fault : goal.expr-returns-in-Call-clause-fault
expr-returns-in-Call-clause-fault t c =
    subst (λ z. OnOk c.call_expr.result (c.call_expr.new.first ≡ type_noted c.args.first.now (expr_faults (table_data c.args.environment.now.table.now) c.args.environment.now.class c.args.environment.now.scope.now z)))
    (ap (λ z. CallE (expr_tree z) c.in-Call.name (exprs_from (map expr_tree c.deref-in-Call-2.result.now))) c.deref-in-Call.ensures
    ∙ ap (λ z. CallE (expr_tree c.in-Call.receiver.value) c.in-Call.name (exprs_from (map expr_tree z))) c.deref-in-Call-2.ensures.value
    ∙ sym (ap expr_tree c.in-Call.is ∙ view_call c.in-Call.receiver c.in-Call.name c.in-Call.args))
    c.call_expr.ensures.fault

pub expr-returns-in-New-clause-typed : goal.expr-returns-in-New-clause-typed
expr-returns-in-New-clause-typed t c =
    subst (λ z. IfOk c.new_expr.result (λ r. option_map typed_data r ≡ z))
    (ap (λ z. elaborated (table_data c.args.environment.now.table.now) c.args.environment.now.class c.args.environment.now.scope.now (NewE c.in-New.name (exprs_from (map expr_tree z)) 0)) c.deref-in-New.ensures.value
    ∙ sym (ap (elaborated (table_data c.args.environment.now.table.now) c.args.environment.now.class c.args.environment.now.scope.now) (ap expr_tree c.in-New.is ∙ view_new c.in-New.name c.in-New.args c.in-New.field-2)))
    c.new_expr.ensures.typed

pub expr-returns-in-New-clause-fault : goal.expr-returns-in-New-clause-fault
expr-returns-in-New-clause-fault t c =
    subst (λ z. OnOk c.new_expr.result (c.new_expr.new.first ≡ type_noted c.args.first.now z))
    (ap (λ z. expr_faults (table_data c.args.environment.now.table.now) c.args.environment.now.class c.args.environment.now.scope.now (NewE c.in-New.name (exprs_from (map expr_tree z)) 0)) c.deref-in-New.ensures.value
    ∙ sym (ap (expr_faults (table_data c.args.environment.now.table.now) c.args.environment.now.class c.args.environment.now.scope.now) (ap expr_tree c.in-New.is ∙ view_new c.in-New.name c.in-New.args c.in-New.field-2)))
    c.new_expr.ensures.fault
