use Rattle.std.specs.Prelude.{◌≡◌, true}
use Rattle.witness.specs.Witness.{IsLike}
use Rattle.witness.proofs.ClosedSets.{none_kept, none_reached}
use Rattle.witness.proofs.order_laws.closed_laws.Goals as goal

pub returns-clause-counted : goal.returns-clause-counted
returns-clause-counted c P by s q node closed start kept = none_kept P (IsLike by) (λ r busy left. node r busy left ≡ true) s q closed start kept

pub returns-clause-whole : goal.returns-clause-whole
returns-clause-whole c P by q node closed start reached = none_reached P (IsLike by) (λ r busy left. node r busy left ≡ true) q closed start reached
