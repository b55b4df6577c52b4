use Rattle.std.proofs.Common.{◌≡◌, true, sym, ap, ◌∙◌}
use Rattle.std.proofs.lemmas.Option.{same_Some}
use Rattle.semantics.specs.Step.{step}
use Rattle.witness.specs.Witness.{IsLike}
use Rattle.witness.proofs.UnseenSteps.{unseen_next, unseen_steps, unseen_stays, unseen_passes}
use Rattle.witness.proofs.UnseenWalks.{none_kept_up_to, none_reached_up_to}
use Rattle.witness.proofs.order_laws.passing_laws.Goals as goal

pub returns-clause-stays : goal.returns-clause-stays
returns-clause-stays c P q p t u other unseen steps = unseen_stays P q t unseen u other p steps

pub returns-clause-passes : goal.returns-clause-passes
returns-clause-passes c P q p next t u other unseen steps there =
    ap (λ x. step P x u) (same_Some next (unseen_next P q t unseen) (sym there ∙ unseen_steps P q t unseen)) ∙ unseen_passes P q t unseen u other p steps

pub returns-clause-counted : goal.returns-clause-counted
returns-clause-counted c P by s q node closed start kept = none_kept_up_to P (IsLike by) (IsLike by q) (λ r busy left. node r busy left ≡ true) s q (λ e like. like) closed start kept

pub returns-clause-whole : goal.returns-clause-whole
returns-clause-whole c P by q node shared closed start reached = none_reached_up_to P (IsLike by) (IsLike by q) (λ r busy left. node r busy left ≡ true) q (λ e like. like) shared closed start reached
