use Rattle.std.proofs.Common.{◌≡◌, subst, sym, arith}
use Rattle.std.specs.Prelude.{Some, OnOk, slice_get}
use Rattle.core_program.specs.Views.{program_of}
use Rattle.state.specs.declared.value.Value.TheVariants as value
use Rattle.state.specs.Frames.{slots_of, top_frame, code_thread}
use Rattle.machine.specs.Deeds.{Can, seen_of, called_thread, deed_thread}
use Rattle.machine.specs.Rooms.{HasRoomOf}
use Rattle.std.specs.FinMap as map
use Rattle.machine.proofs.Counting.{may_take}
use Rattle.machine.proofs.perform.perform.Goals as goal

pub makes_next-requires-clause-numbered : goal.makes_next-requires-clause-numbered
makes_next-requires-clause-numbered c = c.requires.counted.2.numbered

pub makes_next-requires-clause-few : goal.makes_next-requires-clause-few
makes_next-requires-clause-few c = omega (arith, c.requires.counted.2.objects c.args.actor.now.thread, c.requires.counted.1)

pub takes-requires-clause-may : goal.takes-requires-clause-may
takes-requires-clause-may c =
    let k = c.requires.counted in
    may_take k.0 c.args.actor.now.thread (map.get c.args.shared.now.locks c.in-Takes.address) k.1 (λ hold is. k.2.holds c.in-Takes.address hold is)
    (subst (λ d. Can (program_of c.args.actor.now.program.now) (seen_of c.args.actor.now.thread c.args.shared.now.heap c.args.shared.now.locks) c.args.actor.now.thread (slots_of (top_frame c.args.cell.now)) d) c.in-Takes.is c.requires.can)

pub returns-in-Fails-clause-roomy : goal.returns-in-Fails-clause-roomy
returns-in-Fails-clause-roomy c rooms wants = c.faults.ensures.roomy rooms

pub returns-in-Goes-clause-roomy : goal.returns-in-Goes-clause-roomy
returns-in-Goes-clause-roomy c rooms wants = c.goes.ensures.roomy rooms

pub returns-in-Stores-clause-roomy : goal.returns-in-Stores-clause-roomy
returns-in-Stores-clause-roomy c rooms wants = c.stores.ensures.roomy rooms

pub returns-in-Reads-clause-roomy : goal.returns-in-Reads-clause-roomy
returns-in-Reads-clause-roomy c rooms wants = c.goes-in-Reads.ensures.roomy rooms

pub returns-in-Writes-clause-roomy : goal.returns-in-Writes-clause-roomy
returns-in-Writes-clause-roomy c rooms wants = c.writes.ensures.roomy rooms

pub returns-in-Makes-clause-roomy : goal.returns-in-Makes-clause-roomy
returns-in-Makes-clause-roomy c rooms wants = c.makes_next.ensures.roomy rooms

pub returns-in-Takes-clause-roomy : goal.returns-in-Takes-clause-roomy
returns-in-Takes-clause-roomy c rooms wants = c.takes.ensures.roomy rooms

pub returns-in-Gives-clause-roomy : goal.returns-in-Gives-clause-roomy
returns-in-Gives-clause-roomy c rooms wants = c.gives.ensures.roomy rooms

pub returns-in-Returns-clause-roomy : goal.returns-in-Returns-clause-roomy
returns-in-Returns-clause-roomy c rooms wants = c.returns.ensures.roomy rooms

pub returns-in-Prints-clause-roomy : goal.returns-in-Prints-clause-roomy
returns-in-Prints-clause-roomy c rooms wants = c.prints.ensures.roomy rooms

pub returns-in-Starts-clause-roomy : goal.returns-in-Starts-clause-roomy
returns-in-Starts-clause-roomy c rooms wants = c.drops.ensures.roomy rooms

pub returns-in-Enters-clause-cell : goal.returns-in-Enters-clause-cell
returns-in-Enters-clause-cell c =
    let P = program_of c.args.actor.now.program.now in
    let see = seen_of c.args.actor.now.thread c.args.shared.now.heap c.args.shared.now.locks in
    let is = c.call_to_enter-at.ensures in
    subst (λ d. OnOk c.enters.result (code_thread c.enters.new.cell ≡ deed_thread P see c.args.actor.now.thread d (code_thread c.args.cell.now))) (sym c.in-Enters.is)
    (subst (λ X. X) (λ j. OnOk c.enters.result (code_thread c.enters.new.cell ≡ called_thread (is j).entered.method (slice_get P.methods (is j).entered.method) (value.Ref (is j).address) (is j).arguments (is j).place (is j).entered.entry (code_thread c.args.cell.now))) c.enters.ensures.ok)

pub returns-in-Enters-clause-roomy : goal.returns-in-Enters-clause-roomy
returns-in-Enters-clause-roomy c rooms wants =
    let is = c.call_to_enter-at.ensures in
    c.enters.ensures.roomy rooms
    (subst (λ X. X) (λ j. slice_get rooms (sym is j).entered.method ≡ Some (sym is j).entered.room) (subst (λ d. HasRoomOf rooms d) c.in-Enters.is wants))
