use Rattle.reduction.proofs.Theorem.{words}
use Rattle.reduction.proofs.WrittenOrder.{written}
use Rattle.reduction.proofs.written_order_laws.accepted_programs_rewrite.Goals as goal

pub returns : goal.returns
returns c P typed accepted s q ran closed = written P typed s q ran closed (words P typed accepted s)
