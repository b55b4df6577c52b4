use Rattle.std.proofs.Common.{ap, ◌∙◌}
use Rattle.std.specs.Prelude.{slice_get}
use Rattle.core_program.specs.Views.{program_of}
use Rattle.machine.specs.Deeds.{seen_of}
use Rattle.machine.specs.Turns.{next_turn}
use Rattle.machine.proofs.machine.Machine.turn.Goals as goal

pub returns : goal.returns
returns c =
    let e = c.seen.ensures in
    let m = c.args.self.now in
    let threads = c.as_slice.ensures.value ∙ ap (λ m. m.state.threads) c.self.view_is in
    c.next_turn.ensures ∙ (λ i. next_turn (program_of (e.program i)) (e.code i).code.items (e.code i).entry.items (e.code i).room.items (seen_of (e.thread i) (e.heap i) (e.locks i)) (e.thread i) (slice_get (threads i) (e.thread i)))
