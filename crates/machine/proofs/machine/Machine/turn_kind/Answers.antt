use Rattle.std.proofs.Common.{sym, ap, subst, ◌∙◌}
use Rattle.core_program.specs.Views.{program_of}
use Rattle.machine.specs.Deeds.{seen_of}
use Rattle.machine.specs.Standing.{program_run, StandsFor}
use Rattle.machine.specs.Turns.{turn_kind}
use Rattle.machine.specs.Taken.{thread_turn}
use Rattle.machine.proofs.KindOf.{turn_kind_at}
use Rattle.semantics.specs.Step.{kind_of}
use Rattle.machine.proofs.machine.Machine.turn_kind.Goals as goal

pub returns : goal.returns
returns c q kind stands is =
    let e = c.seen.ensures in
    let i = c.self.inside in
    let t = c.args.thread in
    let v = c.self.view_is in
    c.turn_kind.ensures ∙ (λ j. turn_kind (program_of (e.program j)) (seen_of (e.thread j) (e.heap j) (e.locks j)) (e.thread j) c.args.turn.now)
    ∙ sym (ap (λ m. turn_kind (program_run m) (seen_of t m.state.heap m.state.locks) t c.args.turn.now) v)
    ∙ turn_kind_at (program_of i.program.now) i.code.now.code.items i.code.now.entry.items i.code.now.room.items (record { heap = i.shared.heap; locks = i.shared.locks; threads = i.threads.items; output = i.shared.output.items }) t c.self.invariant.0 q
    (subst (λ m. StandsFor m q) (sym v) stands) c.args.turn.now (c.requires ∙ ap (λ m. thread_turn m t) (sym v)) kind (ap (λ m. kind_of (program_run m) q t) v ∙ is)
