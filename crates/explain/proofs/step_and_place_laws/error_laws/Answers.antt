use Rattle.explain.specs.Visits.{part_visits}
use Rattle.explain.proofs.WhyErrors.{error_reads, first_reads}
use Rattle.explain.proofs.step_and_place_laws.error_laws.Goals as goal

pub returns-clause-error : goal.returns-clause-error
returns-clause-error c = error_reads

pub returns-clause-first : goal.returns-clause-first
returns-clause-first c = λ P rel A x n H v e. first_reads P rel A (part_visits P x n H) v e
