-- Both parts are compared.
use Rattle.std.proofs.Common.{sym, ◌∙◌}
use Rattle.witness.proofs.GoalLemmas.{same_output, output_same, same_objects, objects_same}
use Rattle.witness.proofs.goal.same_objects.Goals as goal

pub returns-then-not-same_numbers-clause-told : goal.returns-then-not-same_numbers-clause-told
returns-then-not-same_numbers-clause-told c = λ q e g h like.
    sym c.if-not-same_numbers.true ∙ c.same_numbers.ensures.told (output_same c.args.goal.now q e c.args.machine.now g h c.output.result.now c.output.ensures like.1)

pub returns-clause-like : goal.returns-clause-like
returns-clause-like c = λ q e g h yes. (
  same_objects c.args.goal.now q e c.args.machine.now g h c.heap.result.now c.heap.ensures.objects (c.same_heap.ensures.same yes),
  same_output c.args.goal.now q e c.args.machine.now g h c.output.result.now c.output.ensures (c.same_numbers.ensures.same c.if-not-same_numbers.false),
)

pub returns-clause-told : goal.returns-clause-told
returns-clause-told c = λ q e g h like. c.same_heap.ensures.told (objects_same c.args.goal.now q e c.args.machine.now g h c.heap.result.now c.heap.ensures.objects like.0)
