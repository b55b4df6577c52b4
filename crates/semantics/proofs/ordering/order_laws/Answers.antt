use Rattle.semantics.proofs.Written.{written_sorted}
use Rattle.semantics.proofs.ordering.order_laws.Goals as goal

pub returns : goal.returns
returns c = record { sorted = written_sorted }
