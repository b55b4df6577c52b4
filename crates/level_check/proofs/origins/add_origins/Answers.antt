-- None yet, one method more, and all of the row.
use Rattle.std.proofs.Common.{subst}
use Rattle.rules.specs.Near.{rel_of}
use Rattle.level_check.specs.Told.{origin_in}
use Rattle.level_check.specs.Origins.{AddsOrigins}
use Rattle.level_check.proofs.Beginnings.{adds_none, adds_step, adds_all}
use Rattle.level_check.proofs.origins.add_origins.Goals as goal

pub loop-next-init : goal.loop-next-init
loop-next-init c = adds_none (rel_of c.args.sets.now) c.args.method (origin_in c.args.origins.now.entries)

pub loop-next-preserved : goal.loop-next-preserved
loop-next-preserved c =
    adds_step (rel_of c.args.sets.now) c.args.method c.of-next-items.result.now c.loop-next.next-index c.next-item.result (origin_in c.args.origins.now.entries) (origin_in c.loop-next.origins.entries) (origin_in c.add_origin.new.origins.entries)
    c.loop-next-test.true c.next-item.is c.loop-next.invariant c.in_ok-add_origin.ensures

pub returns : goal.returns
returns c =
    subst (λ row. AddsOrigins (rel_of c.args.sets.now) c.args.method row (origin_in c.args.origins.now.entries) (origin_in c.loop-next.origins.entries)) c.of-next-items.ensures
    (adds_all (rel_of c.args.sets.now) c.args.method c.of-next-items.result.now c.loop-next.next-index (origin_in c.args.origins.now.entries) (origin_in c.loop-next.origins.entries) c.loop-next-test.false c.loop-next.invariant)
