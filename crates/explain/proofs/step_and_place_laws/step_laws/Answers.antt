use Rattle.explain.proofs.Readings.{cmpd_reads, atomic_reads, below_reads}
use Rattle.explain.proofs.step_and_place_laws.step_laws.Goals as goal

pub returns-clause-cmpd : goal.returns-clause-cmpd
returns-clause-cmpd c = cmpd_reads

pub returns-clause-atomic : goal.returns-clause-atomic
returns-clause-atomic c = atomic_reads

pub returns-clause-below : goal.returns-clause-below
returns-clause-below c = below_reads
