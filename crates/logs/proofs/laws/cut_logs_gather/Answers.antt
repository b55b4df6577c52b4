use Rattle.logs.proofs.Judged.{judged_gathers, judged_units}
use Rattle.logs.proofs.laws.cut_logs_gather.Goals as goal

pub returns-clause-gathers : goal.returns-clause-gathers
returns-clause-gathers c guard lines k is = judged_gathers guard lines k is

pub returns-clause-units : goal.returns-clause-units
returns-clause-units c guard lines k is = judged_units guard lines k is
