-- The looks at a program are no more work than is made.
use Rattle.refutation.proofs.Cheap.{cheap, cheap_alone}
use Rattle.refutation.proofs.laws.work_is_bounded.Goals as goal

pub returns-clause-small : goal.returns-clause-small
returns-clause-small c = cheap

pub returns-clause-alone : goal.returns-clause-alone
returns-clause-alone c = cheap_alone
