use Rattle.std.proofs.Common.{◌<◌, length, refl, arith}
use Rattle.std.proofs.lemmas.Option.{slice_get_read, slice_get_within}
use Rattle.core_program.specs.Views.{program_of}
use Rattle.state.specs.Frames.{code_thread}
use Rattle.machine.specs.Deeds.{deed_thread, deed_heap, seen_of, operands_in}
use Rattle.machine.proofs.Cells.{of_found, set_found, set_kept}
use Rattle.machine.proofs.RoomLemmas.{set_roomy, one_roomy, lean_found}
use Rattle.machine.proofs.turn.does.Goals as goal

pub returns-in-Some-clause-threads : goal.returns-in-Some-clause-threads
returns-in-Some-clause-threads c =
    let ts = c.args.threads.now.items in
    let below : c.args.thread < length ts = omega (arith, c.in-Some.ensures.variant.0 refl) in
    set_found ts c.args.thread c.in-Some.cell.now (slice_get_read ts (length ts) c.args.thread c.in-Some.cell.now refl below c.in-Some.ensures.value) c.perform.result c.perform.new.cell
    (deed_thread (program_of c.args.program.now) (seen_of c.args.thread c.args.shared.now.heap c.args.shared.now.locks) c.args.thread c.args.deed) c.perform.ensures.cell

pub returns-in-Some-clause-heap : goal.returns-in-Some-clause-heap
returns-in-Some-clause-heap c =
    let ts = c.args.threads.now.items in
    let below : c.args.thread < length ts = omega (arith, c.in-Some.ensures.variant.0 refl) in
    of_found ts c.args.thread c.in-Some.cell.now (slice_get_read ts (length ts) c.args.thread c.in-Some.cell.now refl below c.in-Some.ensures.value) c.perform.result c.perform.new.shared.heap
    (λ x. deed_heap (program_of c.args.program.now) (seen_of c.args.thread c.args.shared.now.heap c.args.shared.now.locks) c.args.thread (operands_in (code_thread x)) c.args.deed c.args.shared.now.heap) c.perform.ensures.heap

pub returns-in-Some-clause-threads_kept : goal.returns-in-Some-clause-threads_kept
returns-in-Some-clause-threads_kept c = set_kept c.perform.result c.args.threads.now.items c.args.thread c.in-Some.cell.now c.perform.new.cell c.in-Some.ensures.value c.perform.ensures.cell_kept

pub returns-in-None-clause-heap : goal.returns-in-None-clause-heap
returns-in-None-clause-heap c x there = absurd (omega (arith, slice_get_within c.args.threads.now.items c.args.thread x there, c.in-None.ensures.item.3))

pub returns-in-Some-clause-roomy : goal.returns-in-Some-clause-roomy
returns-in-Some-clause-roomy c rooms wants all =
    let ts = c.args.threads.now.items in
    let below : c.args.thread < length ts = omega (arith, c.in-Some.ensures.variant.0 refl) in
    set_roomy rooms ts c.args.thread c.perform.new.cell all (c.perform.ensures.roomy rooms wants
    (one_roomy rooms ts c.args.thread c.in-Some.cell.now (slice_get_read ts (length ts) c.args.thread c.in-Some.cell.now refl below c.in-Some.ensures.value) all))

pub returns-in-Some-clause-lean : goal.returns-in-Some-clause-lean
returns-in-Some-clause-lean c f fs there fits =
    let ts = c.args.threads.now.items in
    let below : c.args.thread < length ts = omega (arith, c.in-Some.ensures.variant.0 refl) in
    lean_found ts c.args.thread c.in-Some.cell.now (slice_get_read ts (length ts) c.args.thread c.in-Some.cell.now refl below c.in-Some.ensures.value) f fs there c.perform.result c.args.deed c.perform.ensures.lean fits
