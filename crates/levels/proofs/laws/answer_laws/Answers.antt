use Rattle.levels.proofs.GreatestLevels.{one_answer}
use Rattle.levels.proofs.laws.answer_laws.Goals as goal

pub returns : goal.returns
returns c = one_answer
