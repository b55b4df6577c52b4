-- Lines lie below closed assignments.
use Rattle.refutation.proofs.Below.{lines_low, certificate_refuses, certificate_rejects}
use Rattle.refutation.proofs.laws.certificates_refute.Goals as goal

pub returns-clause-below : goal.returns-clause-below
returns-clause-below c = λ P rel lines each A falling closed. lines_low P rel A falling closed lines each

pub returns-clause-none_admissible : goal.returns-clause-none_admissible
returns-clause-none_admissible c = certificate_refuses

pub returns-clause-refused : goal.returns-clause-refused
returns-clause-refused c = certificate_rejects
