use Rattle.reduction.proofs.Gathered.{gathered, units_gathered, closed_order}
use Rattle.reduction.proofs.open_order_laws.open_order_gathers.Goals as goal

pub returns-clause-gathers : goal.returns-clause-gathers
returns-clause-gathers c at M sound start end laws first s ran words = gathered laws s start end first ran words

pub returns-clause-units : goal.returns-clause-units
returns-clause-units c at M sound start end laws first s ran words = units_gathered laws s start end first ran words

pub returns-clause-closed : goal.returns-clause-closed
returns-clause-closed c at M sound start end laws first s ran nobody = closed_order laws s start end first ran nobody
