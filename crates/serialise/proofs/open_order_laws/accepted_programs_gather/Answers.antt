use Rattle.reduction.proofs.Theorem.{words}
use Rattle.serialise.proofs.Gathered.{gathered}
use Rattle.serialise.proofs.open_order_laws.accepted_programs_gather.Goals as goal

pub returns : goal.returns
returns c P typed accepted s q ran = gathered P typed s q ran (words P typed accepted s)
