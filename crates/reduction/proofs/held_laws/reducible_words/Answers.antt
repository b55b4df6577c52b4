use Rattle.reduction.proofs.Theorem.{words}
use Rattle.reduction.proofs.held_laws.reducible_words.Goals as goal

pub returns-clause-calls : goal.returns-clause-calls
returns-clause-calls c P typed accepted s n u is call = words P typed accepted s n u is

pub returns-clause-units : goal.returns-clause-units
returns-clause-units c = words
