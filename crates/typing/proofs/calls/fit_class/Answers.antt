use Rattle.std.proofs.Common.{◌≡◌, ◌+◌, ◌-◌, suc, ap, sym, ◌∙◌, Some, None, length, arith}
use Rattle.std.proofs.lemmas.List.{length-map}
use Rattle.classes.specs.Table.{above_in_table}
use Rattle.classes.specs.Views.{table_data, class_data}
use Rattle.typing.specs.Rules.{fit_each, final_types}
use Rattle.typing.specs.Views.{types_of}
use Rattle.typing.proofs.Fitting.{fit_nothing, finals_along, finals_end, class_step}
use Rattle.typing.proofs.calls.fit_class.Goals as goal

pub loop-init : goal.loop-init
loop-init c =
    let t = table_data c.args.table.now in
    let first : length t.classes + 1 - 0 ≡ suc (length t.classes) = omega arith in
    ap (λ n. fit_each t (types_of c.args.args.now) (finals_along t n (Some c.args.class))) first

pub returns-in_default : goal.returns-in_default
returns-in_default c =
    let t = table_data c.args.table.now in
    let long : length c.classes.result.now ≡ length t.classes = sym (length-map c.classes.result.now class_data) ∙ ap length c.classes.ensures in
    class_step t (length t.classes + 1 - c.loop.counter) (length t.classes + 1 - (c.loop.counter + 1)) c.loop.at c.loop.rest.now c.own_fields.result.now None
    (fit_each t (types_of c.args.args.now) (final_types t c.args.class)) (omega (arith, c.loop-test.true, long)) c.own_fields.ensures c.in_default.ensures c.loop.invariant

pub returns-in_default-above : goal.returns-in_default-above
returns-in_default-above c =
    let t = table_data c.args.table.now in
    let long : length c.classes.result.now ≡ length t.classes = sym (length-map c.classes.result.now class_data) ∙ ap length c.classes.ensures in
    let more = length t.classes + 1 - (c.loop.counter + 1) in
    let none : above_in_table t c.loop.at ≡ None = sym c.above.ensures ∙ c.in_default-above.is in
    c.is_empty.ensures
    ∙ sym (fit_nothing t c.in-Some.before.now)
    ∙ ap (λ o. fit_each t (types_of c.in-Some.before.now) (finals_along t more o)) (sym none)
    ∙ class_step t (length t.classes + 1 - c.loop.counter) more c.loop.at c.loop.rest.now c.own_fields.result.now (Some (types_of c.in-Some.before.now))
    (fit_each t (types_of c.args.args.now) (final_types t c.args.class)) (omega (arith, c.loop-test.true, long)) c.own_fields.ensures c.in-Some.ensures c.loop.invariant

pub loop-preserved : goal.loop-preserved
loop-preserved c =
    let t = table_data c.args.table.now in
    let long : length c.classes.result.now ≡ length t.classes = sym (length-map c.classes.result.now class_data) ∙ ap length c.classes.ensures in
    let more = length t.classes + 1 - (c.loop.counter + 1) in
    let next : above_in_table t c.loop.at ≡ Some c.in-Some-above.above = sym c.above.ensures ∙ c.in-Some-above.is in
    ap (λ o. fit_each t (types_of c.in-Some.before.now) (finals_along t more o)) (sym next)
    ∙ class_step t (length t.classes + 1 - c.loop.counter) more c.loop.at c.loop.rest.now c.own_fields.result.now (Some (types_of c.in-Some.before.now))
    (fit_each t (types_of c.args.args.now) (final_types t c.args.class)) (omega (arith, c.loop-test.true, long)) c.own_fields.ensures c.in-Some.ensures c.loop.invariant

pub returns : goal.returns
returns c =
    let t = table_data c.args.table.now in
    let long : length c.classes.result.now ≡ length t.classes = sym (length-map c.classes.result.now class_data) ∙ ap length c.classes.ensures in
    let left = length t.classes + 1 - c.loop.counter in
    let none : left ≡ 0 = omega (arith, c.loop-test.false, long) in
    c.is_empty-2.ensures
    ∙ sym (fit_nothing t c.loop.rest.now)
    ∙ ap (fit_each t (types_of c.loop.rest.now)) (sym (finals_end t left (Some c.loop.at) none))
    ∙ c.loop.invariant
