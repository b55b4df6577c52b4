use Rattle.core_examples.proofs.Judging.{movers_accepted, one_not_refused}
use Rattle.core_examples.proofs.judgements.what_overriding_methods_do.Goals as goal

pub returns-clause-both_movers : goal.returns-clause-both_movers
returns-clause-both_movers c = movers_accepted

pub returns-clause-one_not : goal.returns-clause-one_not
returns-clause-one_not c = one_not_refused
