use Rattle.std.proofs.Common.{sym, ◌∙◌}
use Rattle.core_program.specs.Views.{program_of}
use Rattle.rules.specs.Search.{rows_of}
use Rattle.rules.proofs.SearchLemmas.{follow_some, follow_none}
use Rattle.rules.proofs.search.Family.follow.Goals as goal

pub returns-in-Some : goal.returns-in-Some
returns-in-Some c = follow_some (program_of c.args.program.now) c.put.result c.args.link.now c.args.place.now c.in-Some.path (rows_of c.put.new.self.near.items) c.args.self.now.queue.items c.put.new.self.queue.items (sym c.led_by.ensures ∙ c.in-Some.is) c.put.ensures

pub returns-in-None : goal.returns-in-None
returns-in-None c = follow_none (program_of c.args.program.now) c.args.link.now c.args.place.now (rows_of c.args.self.now.near.items) c.args.self.now.queue.items (sym c.led_by.ensures ∙ c.in-None.is) c.requires
