use Rattle.reduction.proofs.Whole.{written}
use Rattle.reduction.proofs.system_laws.reduction.Goals as goal

pub returns : goal.returns
returns c at M sound start end laws first s ran closed words = written laws s start end first ran closed words
