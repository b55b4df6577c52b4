use Rattle.std.proofs.Common.{reverse, refl, ap, ◌∙◌}
use Rattle.std.proofs.lemmas.List.{reverse-reverse}
use Rattle.core_program.specs.Views.{method_of}
use Rattle.state.specs.declared.value.Value.TheVariants as value
use Rattle.state.specs.States.{new_slots}
use Rattle.state.specs.Frames.{operands_of, top_frame}
use Rattle.machine.specs.Listed.{listed}
use Rattle.std.specs.Prelude.{◌+◌, []}
use Rattle.machine.proofs.RoomLemmas.{called_roomy}
use Rattle.machine.proofs.Threads.{entered_ok}
use Rattle.machine.proofs.perform.enters_found.Goals as goal

pub returns-clause-ok : goal.returns-clause-ok
returns-clause-ok c =
    let method = method_of c.args.found.now in
    let this = value.Ref c.args.at.now.address in
    entered_ok c.call.result c.args.at.now.entered.method method this c.args.at.now.arguments c.args.at.now.place c.args.at.now.entered.entry c.args.at.now.entered.room c.in_ok-slots.slots.items c.args.cell.now c.call.new.self c.call.ensures.ok
    (c.in_ok-slots.ensures method refl ∙ ap (λ ops. new_slots method this (listed c.args.at.now.arguments ops)) (ap reverse c.operands.ensures ∙ reverse-reverse (operands_of (top_frame c.args.cell.now))))

pub returns-clause-roomy : goal.returns-clause-roomy
returns-clause-roomy c rooms wants =
    called_roomy rooms c.call.result (record { method = c.args.at.now.entered.method; slots = c.in_ok-slots.slots.items; operands = []; place = c.args.at.now.entered.entry; taken = []; room = c.args.at.now.entered.room }) (c.args.at.now.arguments + 1) c.args.at.now.place
    c.args.cell.now c.call.new.self wants refl c.call.ensures.ok c.call.ensures.err
