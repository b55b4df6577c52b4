use Rattle.rules.specs.Search.{rows_of}
use Rattle.rules.proofs.SearchLemmas.{links_next}
use Rattle.rules.proofs.search.links_of.Goals as goal

pub loop-clause-preserved : goal.loop-clause-preserved
loop-clause-preserved c = links_next c.args.clauses.now (rows_of c.loop-clause.links.items) (rows_of c.add_link.new.links.items) c.loop-clause.clause-index c.clause-item.result c.loop-clause-test.true c.clause-item.is c.loop-clause.invariant c.in_ok-add_link.ensures
