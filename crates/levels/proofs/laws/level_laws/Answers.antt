use Rattle.levels.proofs.NoCircles.{no_circles}
use Rattle.levels.proofs.laws.level_laws.Goals as goal

pub returns : goal.returns
returns c = no_circles
