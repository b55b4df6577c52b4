use Rattle.explain.proofs.TakenLaws.{around_fits, around_none}
use Rattle.explain.proofs.laws_of_explanations.around_laws.Goals as goal

pub returns : goal.returns
returns c = record { fits = around_fits; none = around_none }
