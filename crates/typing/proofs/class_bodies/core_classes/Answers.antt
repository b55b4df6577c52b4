use Rattle.std.proofs.Common.{length, arith, ap, sym, ◌∙◌, slice_get, option_map}
use Rattle.std.proofs.lemmas.Option.{same_Some, slice_get_within}
use Rattle.classes.specs.Table.{above_in_table}
use Rattle.classes.specs.Views.{table_data}
use Rattle.core_program.specs.Kept.{kept_class}
use Rattle.typing.specs.Kept.{part_of_number}
use Rattle.typing.specs.Lineages.{lineage_of}
use Rattle.typing.proofs.Climbs.{placed_within}
use Rattle.typing.proofs.Filling.{one_known, known_above, all_known}
use Rattle.typing.proofs.Inheriting.{all_made}
use Rattle.typing.proofs.class_bodies.core_classes.Goals as goal

pub value_of-requires : goal.value_of-requires
value_of-requires c =
    let t = table_data c.args.table.now in
    let low = placed_within (above_in_table t) (length t.classes) c.args.order.now c.loop-id.id-index c.id-item.result c.requires.order c.loop-id-test.true c.id-item.is in record {
      within = slice_get_within c.args.lineages.now c.id-item.result (lineage_of t c.id-item.result) (c.requires.lineages c.id-item.result low);
    }

pub class_at-requires-clause-within : goal.class_at-requires-clause-within
class_at-requires-clause-within c =
    let t = table_data c.args.table.now in
    placed_within (above_in_table t) (length t.classes) c.args.order.now c.loop-id.id-index c.id-item.result c.requires.order c.loop-id-test.true c.id-item.is

pub class_at-requires-clause-run : goal.class_at-requires-clause-run
class_at-requires-clause-run c =
    let t = table_data c.args.table.now in
    let low = placed_within (above_in_table t) (length t.classes) c.args.order.now c.loop-id.id-index c.id-item.result c.requires.order c.loop-id-test.true c.id-item.is in
    ap (λ l. l.run) (same_Some c.value_of.result.now (lineage_of t c.id-item.result) (sym c.value_of.ensures ∙ c.requires.lineages c.id-item.result low))

pub class_at-requires-clause-above : goal.class_at-requires-clause-above
class_at-requires-clause-above c = λ d is.
    let t = table_data c.args.table.now in
    ap (λ z. option_map kept_class (slice_get z d)) c.as_slice.ensures.value
    ∙ known_above kept_class (part_of_number t) (above_in_table t) (length t.classes) c.args.order.now c.loop-id.id-index c.id-item.result d c.loop-id.all.items
    c.requires.order c.loop-id-test.true c.id-item.is c.loop-id.invariant is

pub put-requires : goal.put-requires
put-requires c =
    let t = table_data c.args.table.now in
    let low = placed_within (above_in_table t) (length t.classes) c.args.order.now c.loop-id.id-index c.id-item.result c.requires.order c.loop-id-test.true c.id-item.is in
    let long = c.loop-id.invariant.long in record {
      within = omega (arith, low, long);
    }

pub loop-id-preserved : goal.loop-id-preserved
loop-id-preserved c =
    let t = table_data c.args.table.now in
    one_known kept_class (part_of_number t) (length t.classes) c.args.order.now c.loop-id.id-index c.id-item.result c.loop-id.all.items c.put.new.values.items c.in_ok-class.class
    c.loop-id-test.true c.id-item.is
    (placed_within (above_in_table t) (length t.classes) c.args.order.now c.loop-id.id-index c.id-item.result c.requires.order c.loop-id-test.true c.id-item.is)
    c.in_ok-class.ensures c.put.ensures c.loop-id.invariant

pub returns : goal.returns
returns c =
    let t = table_data c.args.table.now in
    all_made kept_class t c.loop-id.all.items c.loop-id.invariant.long
    (all_known kept_class (part_of_number t) (above_in_table t) (length t.classes) c.args.order.now c.loop-id.id-index c.loop-id.all.items c.requires.order c.loop-id-test.false c.loop-id.invariant)
