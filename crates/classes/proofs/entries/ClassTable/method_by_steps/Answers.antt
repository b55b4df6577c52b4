use Rattle.std.proofs.Common.{◌≡◌, ◌-◌, ◌+◌, false, suc, Some, is_some, length, ap, sym, ◌∙◌, arith}
use Rattle.std.proofs.lemmas.List.{length-map}
use Rattle.classes.specs.Lines.{ancestors}
use Rattle.classes.specs.Table.{above_in_table, first_found, own_method}
use Rattle.classes.specs.Views.{table_data, class_data}
use Rattle.classes.proofs.Going.{found_above, found_nowhere}
use Rattle.classes.proofs.entries.ClassTable.method_by_steps.Goals as goal

pub loop-init : goal.loop-init
loop-init c =
    let t = table_data c.args.self.now in
    let long = length-map c.args.self.now.classes.items class_data in
    let first : length c.args.self.now.classes.items + 1 - 0 ≡ suc (length t.classes) = omega (arith, long) in
    ap (λ n. first_found (own_method t c.args.name.now) (ancestors (above_in_table t) n (Some c.args.class))) first

pub loop-preserved : goal.loop-preserved
loop-preserved c =
    let t = table_data c.args.self.now in
    let own = own_method t c.args.name.now in
    let count = length c.args.self.now.classes.items in
    let none : is_some (own c.loop.at) ≡ false = ap is_some (sym c.own_method-found.ensures) ∙ sym c.is_some.ensures ∙ c.if-is_some.false in
    sym (found_above (above_in_table t) own (count + 1 - c.loop.counter) (count + 1 - (c.loop.counter + 1)) c.loop.at (Some c.in_ok-at.at)
    (omega (arith, c.loop-test.true, c.len-end.ensures)) none (sym c.above.ensures ∙ c.in_ok-at.was))
    ∙ c.loop.invariant

pub returns : goal.returns
returns c =
    let t = table_data c.args.self.now in
    let left = length c.args.self.now.classes.items + 1 - c.loop.counter in
    sym (found_nowhere (above_in_table t) (own_method t c.args.name.now) left (Some c.loop.at) (omega (arith, c.loop-test.false, c.len-end.ensures)))
    ∙ c.loop.invariant
