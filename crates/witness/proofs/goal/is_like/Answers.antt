-- As the goal says.
use Rattle.std.proofs.Common.{sym, subst}
use Rattle.witness.specs.Judging.{AreLike}
use Rattle.witness.proofs.GoalLemmas.{same_output, output_same}
use Rattle.witness.proofs.goal.is_like.Goals as goal

pub returns-in-Objects-clause-like : goal.returns-in-Objects-clause-like
returns-in-Objects-clause-like c = λ q e g h yes. subst (λ by. AreLike by q e) (sym c.in-Objects.is) (c.same_objects.ensures.like q e g h yes)

pub returns-in-Objects-clause-told : goal.returns-in-Objects-clause-told
returns-in-Objects-clause-told c = λ q e g h like. c.same_objects.ensures.told q e g h (subst (λ by. AreLike by q e) c.in-Objects.is like)

pub returns-in-Output-clause-like : goal.returns-in-Output-clause-like
returns-in-Output-clause-like c = λ q e g h yes.
    subst (λ by. AreLike by q e) (sym c.in-Output.is) (same_output c.args.goal.now q e c.args.machine.now g h c.output.result.now c.output.ensures (c.same_numbers.ensures.same yes))

pub returns-in-Output-clause-told : goal.returns-in-Output-clause-told
returns-in-Output-clause-told c = λ q e g h like.
    c.same_numbers.ensures.told (output_same c.args.goal.now q e c.args.machine.now g h c.output.result.now c.output.ensures (subst (λ by. AreLike by q e) c.in-Output.is like))
