use Rattle.replay.proofs.Endings.{is_short, is_deep, is_blocked}
use Rattle.replay.proofs.examples.endings.Goals as goal

pub returns-clause-short : goal.returns-clause-short
returns-clause-short c q o is class = is_short q o is class

pub returns-clause-deep : goal.returns-clause-deep
returns-clause-deep c q o is class = is_deep q o is class

pub returns-clause-blocked : goal.returns-clause-blocked
returns-clause-blocked c q hold held other = is_blocked q hold held other
