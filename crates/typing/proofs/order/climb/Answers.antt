use Rattle.std.proofs.Common.{◌-◌, Some, length, refl, sym, subst, ◌∙◌}
use Rattle.classes.specs.Table.{above_in_table}
use Rattle.classes.specs.Views.{table_data}
use Rattle.typing.specs.Order.{Climbs, is_marked}
use Rattle.typing.proofs.Ordering.{climbs_more, climb_short, climb_stopped, climb_over}
use Rattle.typing.proofs.Climbs.{shorter}
use Rattle.typing.proofs.order.climb.Goals as goal

pub loop-next-init : goal.loop-next-init
loop-next-init c = subst (λ z. Climbs (above_in_table (table_data c.args.table.now)) (Some c.args.class) z (Some c.args.class)) (sym c.new-line.ensures.items) refl

pub loop-next-preserved : goal.loop-next-preserved
loop-next-preserved c =
    let above = above_in_table (table_data c.args.table.now) in
    let here = subst (λ o. Climbs above (Some c.args.class) c.loop-next.line.items o) c.in-Some.is c.loop-next.invariant in
    subst (λ o. Climbs above (Some c.args.class) c.push.new.self.items o) (sym c.above-next.ensures)
    (subst (λ z. Climbs above (Some c.args.class) z (above c.in-Some.at)) (sym c.in_ok-push.ensures.items) (climbs_more above (Some c.args.class) c.loop-next.line.items c.in-Some.at here))

pub loop-next-smaller : goal.loop-next-smaller
loop-next-smaller c =
    let t = table_data c.args.table.now in
    let above = above_in_table t in
    let here = subst (λ o. Climbs above (Some c.args.class) c.loop-next.line.items o) c.in-Some.is c.loop-next.invariant in
    let short = climb_short above (length t.classes) c.requires.lined.below c.requires.lined.apart c.args.class c.in-Some.at c.loop-next.line.items c.requires.within here in
    shorter (length t.classes) c.loop-next.line.items c.push.new.self.items c.in-Some.at short c.in_ok-push.ensures.items

pub returns-then-is_marked : goal.returns-then-is_marked
returns-then-is_marked c =
    let above = above_in_table (table_data c.args.table.now) in
    let here = subst (λ o. Climbs above (Some c.args.class) c.loop-next.line.items o) c.in-Some.is c.loop-next.invariant in record {
      climb = climb_stopped above (is_marked c.args.marks.now) c.args.class c.in-Some.at c.loop-next.line.items here (sym c.is_marked.ensures ∙ c.if-is_marked.true);
    }

pub returns : goal.returns
returns c = record {
  climb =
      climb_over (above_in_table (table_data c.args.table.now)) (is_marked c.args.marks.now) c.args.class c.loop-next.line.items c.loop-next.next c.in_default.is c.loop-next.invariant;
}
