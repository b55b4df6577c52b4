use Rattle.explain.proofs.TakenLaws.{call_takes}
use Rattle.explain.proofs.laws_of_explanations.taking_laws.Goals as goal

pub returns : goal.returns
returns c = call_takes
