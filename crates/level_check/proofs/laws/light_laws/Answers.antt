use Rattle.level_check.proofs.Light.{typed_light}
use Rattle.level_check.proofs.laws.light_laws.Goals as goal

pub returns : goal.returns
returns c = typed_light
