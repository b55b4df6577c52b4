use Rattle.rules.specs.Search.{rows_of}
use Rattle.rules.proofs.SearchLemmas.{facts_start, facts_next}
use Rattle.rules.proofs.search.facts_of.Goals as goal

pub loop-clause-init : goal.loop-clause-init
loop-clause-init c = facts_start c.new.result.items c.new-2.result.items c.new.ensures.items c.new-2.ensures.items

pub loop-clause-preserved : goal.loop-clause-preserved
loop-clause-preserved c = facts_next c.args.clauses.now (rows_of c.loop-clause.family.near.items) (rows_of c.put_fact.new.self.near.items) c.loop-clause.family.queue.items c.put_fact.new.self.queue.items c.loop-clause.clause-index c.clause-item.result c.loop-clause-test.true c.clause-item.is c.loop-clause.invariant c.in_ok-put_fact.ensures
