use Rattle.std.proofs.Common.{reverse, ap, ◌∙◌}
use Rattle.std.proofs.lemmas.List.{reverse-reverse}
use Rattle.state.specs.Frames.{top_frame, operands_of, taken_of}
use Rattle.machine.specs.CodeMachine.{deed_of}
use Rattle.machine.specs.Seen.{program_in, entry_in, room_in, shared_in}
use Rattle.machine.proofs.decide.deed_in.Goals as goal

pub returns : goal.returns
returns c =
    let seen = c.args.seen.now in
    let ops = ap reverse c.operands.ensures ∙ reverse-reverse (operands_of (top_frame c.args.cell.now)) in
    let locks = ap reverse c.taken.ensures ∙ reverse-reverse (taken_of (top_frame c.args.cell.now)) in
    c.deed_of.ensures
    ∙ (λ j. deed_of (program_in seen) (entry_in seen) (room_in seen) (shared_in seen) seen.thread (c.slots.ensures j) (ops j) (locks j) (c.frames.ensures j) c.args.line.now.next c.args.line.now.instr)
