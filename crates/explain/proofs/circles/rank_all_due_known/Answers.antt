-- No method yet, and one more.
use Rattle.std.proofs.Common.{◌∙◌, refl}
use Rattle.explain.proofs.circles.rank_all_due_known.Goals as goal

pub loop-place-init : goal.loop-place-init
loop-place-init g c = record { many = refl; circling = λ bounds r. r }

pub loop-place-preserved : goal.loop-place-preserved
loop-place-preserved g c = record {
  many = c.rank_due_known.ensures.length ∙ c.loop-place.invariant.many;
  circling = λ bounds r. c.in_ok-any.ensures.circling bounds (c.loop-place.invariant.circling bounds r);
}

pub rank_due_known-requires-clause-each : goal.rank_due_known-requires-clause-each
rank_due_known-requires-clause-each g c = c.loop-place.invariant.many ∙ c.requires.each
