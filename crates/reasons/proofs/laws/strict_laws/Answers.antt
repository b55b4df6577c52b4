use Rattle.reasons.proofs.Strictly.{strictly_above, strictly_causes, strictly_decides, strictly_end, strictly_reasons}
use Rattle.reasons.proofs.laws.strict_laws.Goals as goal

pub returns-clause-above : goal.returns-clause-above
returns-clause-above c = strictly_above

pub returns-clause-reason : goal.returns-clause-reason
returns-clause-reason c = strictly_reasons

pub returns-clause-cause : goal.returns-clause-cause
returns-clause-cause c = strictly_causes

pub returns-clause-decides : goal.returns-clause-decides
returns-clause-decides c = strictly_decides

pub returns-clause-circle : goal.returns-clause-circle
returns-clause-circle c = strictly_end
