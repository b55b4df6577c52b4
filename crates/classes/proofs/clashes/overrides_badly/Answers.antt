-- One class further up.
use Rattle.std.proofs.Common.{sym, ap, ◌∙◌, ◌-◌}
use Rattle.classes.specs.Families.{tree_of, heading_data, rows_data, class_headings}
use Rattle.classes.specs.Lines.{above, ancestors}
use Rattle.classes.specs.Overriding.{overrides_badly}
use Rattle.classes.proofs.ClashLemmas.{badly_later}
use Rattle.classes.proofs.clashes.overrides_badly.Goals as goal

pub loop-left-preserved : goal.loop-left-preserved
loop-left-preserved c =
    let methods = class_headings (rows_data c.args.rows.now) in
    let up = above (tree_of c.args.family.now) in
    let one = heading_data c.args.one.now in
    ap (λ o. overrides_badly methods (ancestors up (c.loop-left.left - 1) o) one) c.above-next-in-loop-left.ensures
    ∙ badly_later methods up c.loop-left.left c.in-Some.class one _ c.loop-left-test.true
    (ap (λ o. overrides_badly methods (ancestors up c.loop-left.left o) one) (sym c.in-Some.is) ∙ c.loop-left.invariant)
    (sym c.clashes_with_class.ensures ∙ c.if-clashes_with_class.false)
