use Rattle.explain.proofs.AllVisits.{part_among}
use Rattle.explain.proofs.Numbering.{part_numbered}
use Rattle.explain.proofs.step_and_place_laws.place_laws.Goals as goal

pub returns-clause-visited : goal.returns-clause-visited
returns-clause-visited c = part_among

pub returns-clause-numbered : goal.returns-clause-numbered
returns-clause-numbered c = part_numbered
