use Rattle.reasons.proofs.ToldAbove.{all_above, all_causes, all_end, all_reasons}
use Rattle.reasons.proofs.laws.told_laws.Goals as goal

pub returns-clause-above : goal.returns-clause-above
returns-clause-above c = all_above

pub returns-clause-reason : goal.returns-clause-reason
returns-clause-reason c = all_reasons

pub returns-clause-cause : goal.returns-clause-cause
returns-clause-cause c = all_causes

pub returns-clause-circle : goal.returns-clause-circle
returns-clause-circle c = all_end
