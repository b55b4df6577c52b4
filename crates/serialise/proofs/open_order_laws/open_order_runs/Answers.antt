use Rattle.serialise.proofs.Gathered.{gathered, units_gathered, closed_order, uninterrupted}
use Rattle.serialise.proofs.open_order_laws.open_order_runs.Goals as goal

pub returns-clause-gathers : goal.returns-clause-gathers
returns-clause-gathers c P typed s q ran words = gathered P typed s q ran words

pub returns-clause-units : goal.returns-clause-units
returns-clause-units c P typed s q ran words = units_gathered P typed s q ran words

pub returns-clause-closed : goal.returns-clause-closed
returns-clause-closed c P typed s q ran nobody = closed_order P typed s q ran nobody

pub returns-clause-uninterrupted : goal.returns-clause-uninterrupted
returns-clause-uninterrupted c P typed s q ran words nobody = uninterrupted P typed s q ran words nobody
