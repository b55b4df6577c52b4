use Rattle.classes.proofs.Higher.{above_row, table_below, counts_row}
use Rattle.classes.proofs.laws.above_laws.Goals as goal

pub returns-clause-above : goal.returns-clause-above
returns-clause-above c = above_row

pub returns-clause-below : goal.returns-clause-below
returns-clause-below c = table_below

pub returns-clause-counts : goal.returns-clause-counts
returns-clause-counts c = counts_row
