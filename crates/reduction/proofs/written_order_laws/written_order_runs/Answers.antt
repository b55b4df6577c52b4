use Rattle.reduction.proofs.WrittenOrder.{written}
use Rattle.reduction.proofs.written_order_laws.written_order_runs.Goals as goal

pub returns : goal.returns
returns c P typed s q ran closed words = written P typed s q ran closed words
