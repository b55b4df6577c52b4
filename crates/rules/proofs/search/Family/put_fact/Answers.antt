use Rattle.std.proofs.Common.{refl}
use Rattle.rules.specs.Search.{rows_of}
use Rattle.rules.proofs.SearchLemmas.{put_fact_some, put_fact_none}
use Rattle.rules.proofs.search.Family.put_fact.Goals as goal

pub returns-in-Fact : goal.returns-in-Fact
returns-in-Fact c = put_fact_some c.put.result c.args.clause.now c.in-Fact.place c.in-Fact.place (rows_of c.put.new.self.near.items) c.args.self.now.queue.items c.put.new.self.queue.items c.in-Fact.is refl c.put.ensures

pub returns-in-Leads : goal.returns-in-Leads
returns-in-Leads c = put_fact_none c.args.clause.now c.in-Leads.field-0 (rows_of c.args.self.now.near.items) c.args.self.now.queue.items c.in-Leads.is c.requires
