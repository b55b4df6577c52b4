use Rattle.explain.proofs.Meant.{meant}
use Rattle.explain.proofs.laws_of_explanations.reason_laws.Goals as goal

pub returns : goal.returns
returns c = meant
