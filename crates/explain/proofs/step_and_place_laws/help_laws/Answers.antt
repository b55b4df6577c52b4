use Rattle.explain.proofs.Helping.{part_helps}
use Rattle.explain.proofs.step_and_place_laws.help_laws.Goals as goal

pub returns : goal.returns
returns c = record { helps = part_helps }
