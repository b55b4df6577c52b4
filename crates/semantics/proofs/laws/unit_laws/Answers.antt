use Rattle.semantics.proofs.UnitLemmas.{written_rearranges}
use Rattle.semantics.proofs.KeptLemmas.{kept_uninterrupted, uninterrupted_kept}
use Rattle.semantics.proofs.laws.unit_laws.Goals as goal

pub returns-clause-uninterrupted : goal.returns-clause-uninterrupted
returns-clause-uninterrupted c P s runs = (kept_uninterrupted P s runs, uninterrupted_kept P s)

pub returns-clause-rearrangement : goal.returns-clause-rearrangement
returns-clause-rearrangement c = written_rearranges
