-- The fault of form, said apart from the reader.
use Rattle.schedule.proofs.FormLemmas.{front_before, wrong_at}
use Rattle.schedule.proofs.laws.form_laws.Goals as goal

pub returns-clause-before : goal.returns-clause-before
returns-clause-before c = front_before

pub returns-clause-at : goal.returns-clause-at
returns-clause-at c = wrong_at
