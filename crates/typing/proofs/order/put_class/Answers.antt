use Rattle.std.proofs.Common.{length, ap, sym, ◌∙◌}
use Rattle.std.proofs.lemmas.Result.{on_ok_weaker}
use Rattle.classes.specs.Table.{above_in_table}
use Rattle.classes.specs.Views.{table_data}
use Rattle.typing.specs.Order.{is_marked, stands_in}
use Rattle.typing.proofs.Ordering.{stands_last, stands_left}
use Rattle.typing.proofs.order.put_class.Goals as goal

pub returns-then-is_marked : goal.returns-then-is_marked
returns-then-is_marked c = record {
  ordered = c.requires.ordered;
  class = c.requires.ordered.marked c.args.class (ap (λ m. is_marked m c.args.class) (sym c.as_slice.ensures.value) ∙ sym c.is_marked.ensures ∙ c.if-is_marked.true);
  others = λ d there. there;
}

pub returns-in-None : goal.returns-in-None
returns-in-None c =
    let t = table_data c.args.table.now in
    let order = c.args.order.now.items in record {
      ordered = on_ok_weaker c.put_top.result (λ h. h (above_in_table t) (length t.classes) (sym c.above.ensures ∙ c.in-None.is) c.requires.ordered) c.put_top.ensures.ordered;
      class = on_ok_weaker c.put_top.result (λ is. ap (λ z. stands_in z c.args.class) is ∙ stands_last order c.args.class) c.put_top.ensures.order;
      others = on_ok_weaker c.put_top.result (λ is d there. ap (λ z. stands_in z d) is ∙ stands_left order _ d there) c.put_top.ensures.order;
    }
