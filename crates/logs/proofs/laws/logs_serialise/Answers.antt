use Rattle.reduction.proofs.Whole.{written}
use Rattle.logs.proofs.Moves.{logs_move}
use Rattle.logs.proofs.laws.logs_serialise.Goals as goal

pub returns-clause-movers : goal.returns-clause-movers
returns-clause-movers c guard = logs_move guard

pub returns-clause-serial : goal.returns-clause-serial
returns-clause-serial c guard start end s ran closed words = written (logs_move guard) s start end tt ran closed words
