use Rattle.state.proofs.MemoryLemmas.{length-taken}
use Rattle.state.proofs.laws.operand_laws.Goals as goal

pub returns : goal.returns
returns c = record { length = length-taken }
