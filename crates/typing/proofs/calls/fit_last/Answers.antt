use Rattle.std.proofs.Common.{◌≡◌, ◌<◌, ◌&&◌, ◌∙◌, ap, sym, length, arith}
use Rattle.std.proofs.Math.Bool.{and-true, and-false}
use Rattle.std.specs.Prelude.{option_map}
use Rattle.classes.specs.Views.{table_data}
use Rattle.typing.specs.Fitting.{fit_before}
use Rattle.typing.specs.Rules.{fit_each, types_of_finals}
use Rattle.typing.specs.Views.{types_of}
use Rattle.typing.proofs.Fitting.{fit_fewer, fit_last, finals_count}
use Rattle.typing.proofs.calls.fit_last.Goals as goal

pub returns-in_err-count : goal.returns-in_err-count
returns-in_err-count c = λ us.
    let count = finals_count c.args.fields.now in
    let fewer : length c.args.args.now < length (types_of_finals c.args.fields.now) = omega (arith, c.in_err-count.ensures, c.count_finals.ensures, count) in
    fit_fewer (table_data c.args.table.now) c.args.args.now us (types_of_finals c.args.fields.now) fewer
    ∙ ap (λ o. fit_before (table_data c.args.table.now) us (option_map (λ before. types_of before.now) o)) (sym c.from_residual.ensures)

pub returns-then-not-fit_finals : goal.returns-then-not-fit_finals
returns-then-not-fit_finals c = λ us.
    let before = c.split_at.result.0.now in
    let own = c.split_at.result.1.now in
    let last = types_of_finals c.args.fields.now in
    let count = finals_count c.args.fields.now in
    let same : length own ≡ length last = omega (arith, c.split_at.ensures.back_len, c.in_ok-count.ensures.0, c.in_ok-count.ensures.1, c.count_finals.ensures, count) in
    fit_last (table_data c.args.table.now) c.args.args.now before own us last c.split_at.ensures.by_index.0 same
    ∙ ap (λ b. fit_each (table_data c.args.table.now) (types_of before) us && b) (sym c.fit_finals.ensures ∙ c.if-not-fit_finals.true)
    ∙ and-false (fit_each (table_data c.args.table.now) (types_of before) us)

pub returns : goal.returns
returns c = λ us.
    let before = c.split_at.result.0.now in
    let own = c.split_at.result.1.now in
    let last = types_of_finals c.args.fields.now in
    let count = finals_count c.args.fields.now in
    let same : length own ≡ length last = omega (arith, c.split_at.ensures.back_len, c.in_ok-count.ensures.0, c.in_ok-count.ensures.1, c.count_finals.ensures, count) in
    fit_last (table_data c.args.table.now) c.args.args.now before own us last c.split_at.ensures.by_index.0 same
    ∙ ap (λ b. fit_each (table_data c.args.table.now) (types_of before) us && b) (sym c.fit_finals.ensures ∙ c.if-not-fit_finals.false)
    ∙ and-true (fit_each (table_data c.args.table.now) (types_of before) us)
