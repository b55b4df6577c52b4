use Rattle.std.proofs.Common.{refl}
use Rattle.core_program.specs.Views.{method_of}
use Rattle.state.specs.declared.value.Value.TheVariants as value
use Rattle.std.specs.Prelude.{[]}
use Rattle.machine.proofs.RoomLemmas.{pushed_roomy}
use Rattle.machine.proofs.Threads.{first_ok}
use Rattle.machine.proofs.turn.enters_first.Goals as goal

pub returns-clause-ok : goal.returns-clause-ok
returns-clause-ok c =
    first_ok c.push_frame.result c.args.address c.args.entered.method (method_of c.args.found.now) (value.Ref c.args.address) c.args.entered.entry c.args.entered.room c.in_ok-slots.slots.items c.args.cell.now c.push_frame.new.self
    c.requires c.push_frame.ensures.ok (c.in_ok-slots.ensures (method_of c.args.found.now) refl)

pub returns-clause-roomy : goal.returns-clause-roomy
returns-clause-roomy c rooms wants =
    pushed_roomy rooms c.push_frame.result (record { method = c.args.entered.method; slots = c.in_ok-slots.slots.items; operands = []; place = c.args.entered.entry; taken = []; room = c.args.entered.room }) c.args.cell.now c.push_frame.new.self
    wants refl c.push_frame.ensures.ok c.push_frame.ensures.err
