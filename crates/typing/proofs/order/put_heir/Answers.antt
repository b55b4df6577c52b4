use Rattle.std.proofs.Common.{length, reverse, ap, ◌∙◌, subst}
use Rattle.std.proofs.lemmas.Result.{on_ok_weaker}
use Rattle.classes.specs.Table.{above_in_table}
use Rattle.classes.specs.Views.{table_data}
use Rattle.typing.specs.Order.{IsClimb, is_marked, stands_in}
use Rattle.typing.proofs.Ordering.{line_within, climb_placed, class_stands, stands_left}
use Rattle.typing.proofs.order.put_heir.Goals as goal

pub put_line-requires : goal.put_line-requires
put_line-requires c =
    let t = table_data c.args.table.now in record {
      within =
          line_within (above_in_table t) (length t.classes) (length c.args.marks.now.items) (is_marked c.as_slice.result.now) c.args.class c.in_ok-line.line.items
          c.requires.lined.below c.requires.within c.requires.ordered.many c.in_ok-line.ensures.climb;
    }

pub returns : goal.returns
returns c =
    let t = table_data c.args.table.now in
    let line = c.in_ok-line.line.items in
    let order = c.args.order.now.items in
    let placed =
    climb_placed (above_in_table t) (length t.classes) c.args.class c.args.marks.now.items order line c.requires.ordered
    (subst (λ m. IsClimb (above_in_table t) (is_marked m) c.args.class line) c.as_slice.ensures.value c.in_ok-line.ensures.climb) in record {
      ordered = on_ok_weaker c.put_line.result (λ h. h (above_in_table t) (length t.classes) c.args.class c.requires.ordered placed) c.put_line.ensures.ordered;
      class = on_ok_weaker c.put_line.result (λ is. class_stands (above_in_table t) order c.put_line.new.order.items line c.args.class placed is) c.put_line.ensures.order;
      others = on_ok_weaker c.put_line.result (λ is d there. ap (λ z. stands_in z d) is ∙ stands_left order (reverse line) d there) c.put_line.ensures.order;
    }
