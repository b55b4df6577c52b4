use Rattle.std.proofs.Common.{◌≤◌, length, refl, sym, subst, arith}
use Rattle.classes.specs.Table.{above_in_table}
use Rattle.classes.specs.Views.{class_data, table_data}
use Rattle.typing.specs.Order.{IsAncestorOrder}
use Rattle.typing.proofs.Ordering.{more_placed, all_placed}
use Rattle.typing.proofs.Climbs.{as_long, begins_ordered}
use Rattle.typing.proofs.order.from_above.Goals as goal

pub loop-class-init : goal.loop-class-init
loop-class-init c =
    let t = table_data c.args.table.now in
    let classes = c.classes-classes.result.now in (
      subst (λ z. IsAncestorOrder (above_in_table t) (length t.classes) c.in_ok-marks.marks.items z) (sym c.new-order.ensures.items)
          (begins_ordered class_data (above_in_table t) classes t.classes (length classes) c.in_ok-marks.marks.items c.classes-classes.ensures refl c.in_ok-marks.ensures),
      λ n low. absurd (omega (arith, low)),
      refl,
    )

pub put_class-requires-clause-within : goal.put_class-requires-clause-within
put_class-requires-clause-within c =
    let t = table_data c.args.table.now in
    let long = as_long class_data c.classes-classes.result.now t.classes c.classes-classes.ensures in
    let counted = c.loop-class.invariant.2 in
    let low = c.loop-class-test.true in
    omega (arith, long, counted, low)

pub loop-class-preserved : goal.loop-class-preserved
loop-class-preserved c =
    let counted = c.loop-class.invariant.2 in
    let next = c.in_ok-number.ensures in (
      c.in_ok-put_class.ensures.ordered,
      more_placed c.loop-class.order.items c.put_class.new.order.items c.loop-class.number c.in_ok-number.number c.loop-class.number
          c.loop-class.invariant.1 c.in_ok-put_class.ensures.others c.in_ok-put_class.ensures.class refl c.in_ok-number.ensures,
      omega (arith, counted, next),
    )

pub returns : goal.returns
returns c =
    let t = table_data c.args.table.now in
    let long = as_long class_data c.classes-classes.result.now t.classes c.classes-classes.ensures in
    let counted = c.loop-class.invariant.2 in
    let past = c.loop-class-test.false in
    let enough : length t.classes ≤ c.loop-class.number = omega (arith, long, counted, past) in
    all_placed (above_in_table t) (length t.classes) c.loop-class.number c.loop-class.marks.items c.loop-class.order.items c.loop-class.invariant.0 c.loop-class.invariant.1 enough
