use Rattle.witness.specs.Witness.{SameState}
use Rattle.witness.proofs.Theorem.{no_witness}
use Rattle.witness.proofs.laws.witness_laws.Goals as goal

pub returns-clause-accepted : goal.returns-clause-accepted
returns-clause-accepted c P typed accepted s w = no_witness P SameState typed accepted s w

pub returns-clause-compared : goal.returns-clause-compared
returns-clause-compared c P by typed accepted s w = no_witness P by typed accepted s w

pub returns-clause-refuted : goal.returns-clause-refuted
returns-clause-refuted c P by s sets A typed w relevant few admissible =
    no_witness P by typed (record { sets = sets; relevant = relevant; few = few; assignment = A; admissible = admissible }) s w
