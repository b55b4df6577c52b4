use Rattle.std.proofs.Common.{length, true, ap, ◌∙◌}
use Rattle.std.proofs.lemmas.List.{length-set}
use Rattle.typing.proofs.Ordering.{grows_once, last_within, rest_within, turned}
use Rattle.typing.proofs.order.put_line.Goals as goal

pub put-requires : goal.put-requires
put-requires c = record {
  within = last_within c.loop-last.line.items c.pop.new.self.items c.in-Some.last (length c.loop-last.marks.items) c.in-Some.ensures.items c.loop-last.invariant.0;
}

pub loop-last-preserved : goal.loop-last-preserved
loop-last-preserved c =
    let line = c.loop-last.line.items in
    let left = c.pop.new.self.items in
    let marks = c.loop-last.marks.items in (
      rest_within line left c.in-Some.last (length marks) (length c.put.new.values.items) c.in-Some.ensures.items (ap length c.put.ensures ∙ length-set marks c.in-Some.last true) c.loop-last.invariant.0,
      λ above count class grows.
          grows_once above count class marks c.put.new.values.items c.loop-last.order.items c.push.new.self.items line left c.in-Some.last
          c.in-Some.ensures.items c.in_ok-push.ensures.items c.put.ensures (last_within line left c.in-Some.last (length marks) c.in-Some.ensures.items c.loop-last.invariant.0)
          (c.loop-last.invariant.1 above count class grows),
      turned c.loop-last.order.items c.push.new.self.items line left _ c.in-Some.last c.in-Some.ensures.items c.in_ok-push.ensures.items c.loop-last.invariant.2,
    )

pub returns-clause-ordered : goal.returns-clause-ordered
returns-clause-ordered c = λ above count class ordered climb. (c.loop-last.invariant.1 above count class (record { ordered = ordered; climb = climb })).ordered
