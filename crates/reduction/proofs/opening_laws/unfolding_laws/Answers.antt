use Rattle.reduction.proofs.PhaseLemmas.{after_seq}
use Rattle.reduction.proofs.Frames.{frames_move, frames_unfold}
use Rattle.reduction.proofs.opening_laws.unfolding_laws.Goals as goal

pub returns-clause-sequence : goal.returns-clause-sequence
returns-clause-sequence c = after_seq

pub returns-clause-moves : goal.returns-clause-moves
returns-clause-moves c = frames_move

pub returns-clause-unfolds : goal.returns-clause-unfolds
returns-clause-unfolds c = frames_unfold
