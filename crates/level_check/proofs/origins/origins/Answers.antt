-- None yet, one method more, and all.
use Rattle.std.proofs.Common.{arith}
use Rattle.rules.specs.Near.{rel_of}
use Rattle.rules.specs.Search.{row_at}
use Rattle.level_check.specs.Told.{origin_in}
use Rattle.level_check.proofs.Beginnings.{first_step, first_all}
use Rattle.level_check.proofs.origins.origins.Goals as goal

pub loop-place-init : goal.loop-place-init
loop-place-init c = λ m below. absurd (omega (arith, below))

pub loop-place-preserved : goal.loop-place-preserved
loop-place-preserved c =
    first_step (rel_of c.args.sets.now) (row_at c.args.over.now) c.loop-place.place c.in_ok-method_at.field-0 (origin_in c.loop-place.origins.entries) (origin_in c.add_origins.new.origins.entries) c.in_ok-method_at.ensures c.loop-place.invariant c.in_ok-add_origins.ensures

pub returns : goal.returns
returns c =
    first_all (rel_of c.args.sets.now) c.args.program.now c.args.over.now c.requires c.loop-place.place (origin_in c.loop-place.origins.entries) (omega (arith, c.loop-place-test.false, c.len-count.ensures)) c.loop-place.invariant
