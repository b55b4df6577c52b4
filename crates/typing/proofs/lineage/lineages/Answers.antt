use Rattle.std.proofs.Common.{Some, length, arith, ap, ◌∙◌, slice_get}
use Rattle.classes.specs.Table.{above_in_table}
use Rattle.classes.specs.Views.{table_data}
use Rattle.typing.specs.declared.lineage.Lineage.{Lineage}
use Rattle.typing.specs.Lineages.{lineage_of}
use Rattle.typing.proofs.Climbs.{placed_within}
use Rattle.typing.proofs.Filling.{one_known, known_above, plain_known}
use Rattle.typing.proofs.lineage.lineages.Goals as goal

pub class_lineage-requires-clause-within : goal.class_lineage-requires-clause-within
class_lineage-requires-clause-within c =
    let t = table_data c.args.table.now in
    placed_within (above_in_table t) (length t.classes) c.args.order.now c.loop-class.class-index c.class-item.result c.requires.order c.loop-class-test.true c.class-item.is

pub class_lineage-requires-clause-above : goal.class_lineage-requires-clause-above
class_lineage-requires-clause-above c = λ d is.
    let t = table_data c.args.table.now in
    ap (λ z. slice_get z d) c.as_slice.ensures.value
    ∙ plain_known (slice_get c.loop-class.all.items d) (lineage_of t d)
    (known_above (λ (x : Lineage). x) (λ n. Some (lineage_of t n)) (above_in_table t) (length t.classes) c.args.order.now c.loop-class.class-index c.class-item.result d c.loop-class.all.items
    c.requires.order c.loop-class-test.true c.class-item.is c.loop-class.invariant is)

pub put-requires : goal.put-requires
put-requires c =
    let t = table_data c.args.table.now in
    let low = placed_within (above_in_table t) (length t.classes) c.args.order.now c.loop-class.class-index c.class-item.result c.requires.order c.loop-class-test.true c.class-item.is in
    let long = c.loop-class.invariant.long in record {
      within = omega (arith, low, long);
    }

pub loop-class-preserved : goal.loop-class-preserved
loop-class-preserved c =
    let t = table_data c.args.table.now in
    one_known (λ (x : Lineage). x) (λ n. Some (lineage_of t n)) (length t.classes) c.args.order.now c.loop-class.class-index c.class-item.result c.loop-class.all.items c.put.new.values.items c.in_ok-value.value
    c.loop-class-test.true c.class-item.is
    (placed_within (above_in_table t) (length t.classes) c.args.order.now c.loop-class.class-index c.class-item.result c.requires.order c.loop-class-test.true c.class-item.is)
    (ap Some c.in_ok-value.ensures) c.put.ensures c.loop-class.invariant
