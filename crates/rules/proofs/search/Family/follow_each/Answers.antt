use Rattle.core_program.specs.Views.{program_of}
use Rattle.rules.specs.Search.{rows_of}
use Rattle.rules.proofs.SearchLemmas.{led_none, led_next, led_whole}
use Rattle.rules.proofs.search.Family.follow_each.Goals as goal

pub loop-link-init : goal.loop-link-init
loop-link-init c = led_none (program_of c.args.program.now) c.args.place.now (rows_of c.args.self.now.near.items) c.args.self.now.queue.items c.requires

pub follow-requires : goal.follow-requires
follow-requires c = c.loop-link.invariant.agree

pub loop-link-preserved : goal.loop-link-preserved
loop-link-preserved c = led_next (program_of c.args.program.now) (rows_of c.loop-link.self.near.items) (rows_of c.follow.new.self.near.items) c.args.self.now.queue.items c.loop-link.self.queue.items c.follow.new.self.queue.items c.args.links.now c.loop-link.link-index c.link-item.result c.args.place.now c.loop-link-test.true c.link-item.is c.loop-link.invariant c.in_ok-follow.ensures

pub returns : goal.returns
returns c = led_whole (program_of c.args.program.now) (rows_of c.loop-link.self.near.items) c.args.self.now.queue.items c.loop-link.self.queue.items c.args.links.now c.loop-link.link-index c.args.place.now c.loop-link-test.false c.loop-link.invariant
