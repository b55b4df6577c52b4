use Rattle.reduction.proofs.SoundRuns.{sound_initial, sound_moved, sound_run, sound_orderly}
use Rattle.reduction.proofs.neighbour_laws.address_laws.Goals as goal

pub returns-clause-initial : goal.returns-clause-initial
returns-clause-initial c = λ P. sound_initial P

pub returns-clause-step : goal.returns-clause-step
returns-clause-step c = λ P q t m s e. sound_moved P q t m s e

pub returns-clause-run : goal.returns-clause-run
returns-clause-run c = λ P s q e. sound_run P s q e

pub returns-clause-orderly : goal.returns-clause-orderly
returns-clause-orderly c = sound_orderly
