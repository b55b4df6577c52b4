use Rattle.std.proofs.Common.{◌<◌, None, length, refl, arith}
use Rattle.std.proofs.lemmas.Option.{slice_get_read}
use Rattle.machine.specs.Deeds.{advanced}
use Rattle.state.specs.Frames.{on_top}
use Rattle.machine.proofs.Cells.{top_found, set_before, one_more_is}
use Rattle.state.specs.States.{Ready}
use Rattle.machine.proofs.RoomLemmas.{set_roomy, one_roomy, more_roomy}
use Rattle.machine.proofs.turn.starts.Goals as goal

pub drops-requires : goal.drops-requires
drops-requires c =
    let more = c.push.new.self.items in
    let below : c.args.thread < length more = omega (arith, c.in-Some.ensures.variant.0 refl) in
    top_found c.args.threads.now.items more c.args.thread c.ready.result c.in-Some.cell.now c.in_ok-push.ensures.items (slice_get_read more (length more) c.args.thread c.in-Some.cell.now refl below c.in-Some.ensures.value) c.requires

pub returns-in-Some-clause-ok : goal.returns-in-Some-clause-ok
returns-in-Some-clause-ok c x there =
    let more = c.push.new.self.items in
    let below : c.args.thread < length more = omega (arith, c.in-Some.ensures.variant.0 refl) in
    set_before c.args.threads.now.items more c.args.thread _ c.in-Some.cell.now (one_more_is c.args.threads.now.items more c.ready.result (Ready c.args.address c.args.method) c.in_ok-push.ensures.items c.ready.ensures)
    (slice_get_read more (length more) c.args.thread c.in-Some.cell.now refl below c.in-Some.ensures.value) c.drops.new.cell (on_top (advanced 1 None c.args.place)) c.drops.ensures.thread x there

pub returns-in-Some-clause-roomy : goal.returns-in-Some-clause-roomy
returns-in-Some-clause-roomy c rooms all =
    let more = c.push.new.self.items in
    let below : c.args.thread < length more = omega (arith, c.in-Some.ensures.variant.0 refl) in
    let grown = more_roomy rooms c.args.threads.now.items more c.ready.result c.args.address c.args.method c.in_ok-push.ensures.items c.ready.ensures all in
    set_roomy rooms more c.args.thread c.drops.new.cell grown (c.drops.ensures.roomy rooms (one_roomy rooms more c.args.thread c.in-Some.cell.now (slice_get_read more (length more) c.args.thread c.in-Some.cell.now refl below c.in-Some.ensures.value) grown))
