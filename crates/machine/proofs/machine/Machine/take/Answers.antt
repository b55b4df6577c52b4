use Rattle.std.proofs.Common.{refl, sym, subst, ◌∙◌, ◌+◌, ap, arith}
use Rattle.std.specs.Prelude.{Ok, Err, slice_get}
use Rattle.core_program.specs.Views.{program_of}
use Rattle.core_program.specs.Typed.{IsTyped}
use Rattle.machine.specs.Standing.{program_run, StandsFor}
use Rattle.machine.specs.CodeMachine.{code_outcome}
use Rattle.machine.specs.MachineValue.{code_state}
use Rattle.machine.specs.Taken.{state_in, thread_turn}
use Rattle.machine.specs.Counts.{IsCounted}
use Rattle.machine.specs.Rooms.{TurnFits}
use Rattle.machine.proofs.Reaching.{kept_on, turn_fits}
use Rattle.machine.proofs.Turned.{kept_length, no_more_threads, one_more_thread, machine_turn}
use Rattle.machine.proofs.machine.Machine.take.Goals as goal

pub invariant_of-self : goal.invariant_of-self
invariant_of-self c =
    let s = c.self.inside in (
      c.self.invariant.0,
      omega (
        arith,
        c.self.invariant.1,
        kept_length c.take_turn.new.threads.items,
        kept_length s.threads.items,
        one_more_thread c.args.thread c.take_turn.result (state_in c.take_turn.new.shared.heap c.take_turn.new.shared.locks c.take_turn.new.threads.items c.take_turn.new.shared.output.items) (state_in s.shared.heap s.shared.locks s.threads.items s.shared.output.items)
            (code_outcome (program_of s.program.now) s.code.now.code.items s.code.now.entry.items s.code.now.room.items (state_in s.shared.heap s.shared.locks s.threads.items s.shared.output.items) c.args.thread) (c.take_turn.ensures.taken c.self.inside.code.now.code.items c.self.inside.code.now.entry.items c.self.inside.code.now.room.items (c.requires.decided ∙ ap (λ m. thread_turn m c.args.thread) (sym c.self.view_is))),
      ),
      omega (arith, c.requires.made, ap (λ m. m.made) c.self.view_is),
      kept_on (program_of s.program.now) s.code.now.code.items s.code.now.entry.items s.code.now.room.items c.self.invariant.0 c.args.thread c.take_turn.result
          (record { heap = s.shared.heap; locks = s.shared.locks; threads = s.threads.items; output = s.shared.output.items })
          (record { heap = c.take_turn.new.shared.heap; locks = c.take_turn.new.shared.locks; threads = c.take_turn.new.threads.items; output = c.take_turn.new.shared.output.items })
          c.self.invariant.3 (c.take_turn.ensures.taken c.self.inside.code.now.code.items c.self.inside.code.now.entry.items c.self.inside.code.now.room.items (c.requires.decided ∙ ap (λ m. thread_turn m c.args.thread) (sym c.self.view_is))) (c.take_turn.ensures.roomy c.self.inside.code.now.code.items c.self.inside.code.now.entry.items c.self.inside.code.now.room.items (c.requires.decided ∙ ap (λ m. thread_turn m c.args.thread) (sym c.self.view_is)) c.self.invariant.0.rooms c.self.invariant.3.roomy),
      c.in-Ok.ensures.counted s.made c.self.invariant.4,
      c.self.invariant.5,
    )

pub returns-in-Ok-clause-turn : goal.returns-in-Ok-clause-turn
returns-in-Ok-clause-turn c q h = machine_turn c.args.self.now c.self.inside.program.now c.self.inside.code.now c.self.inside.shared.heap c.take_turn.new.shared.heap c.self.inside.shared.locks c.take_turn.new.shared.locks c.self.inside.threads.items c.take_turn.new.threads.items c.self.inside.shared.output.items c.take_turn.new.shared.output.items c.self.inside.made (c.self.inside.made + 1) c.args.thread (Ok tt) q c.self.view_is c.self.invariant.0 h (c.in-Ok.ensures.taken c.self.inside.code.now.code.items c.self.inside.code.now.entry.items c.self.inside.code.now.room.items (c.requires.decided ∙ ap (λ m. thread_turn m c.args.thread) (sym c.self.view_is)))

pub returns-in-Err-clause-turn : goal.returns-in-Err-clause-turn
returns-in-Err-clause-turn c q h = machine_turn c.args.self.now c.self.inside.program.now c.self.inside.code.now c.self.inside.shared.heap c.take_turn.new.shared.heap c.self.inside.shared.locks c.take_turn.new.shared.locks c.self.inside.threads.items c.take_turn.new.threads.items c.self.inside.shared.output.items c.take_turn.new.shared.output.items c.self.inside.made c.self.inside.made c.args.thread (Err c.in-Err.why) q c.self.view_is c.self.invariant.0 h (c.in-Err.ensures.taken c.self.inside.code.now.code.items c.self.inside.code.now.entry.items c.self.inside.code.now.room.items (c.requires.decided ∙ ap (λ m. thread_turn m c.args.thread) (sym c.self.view_is)))

pub invariant_of-self-in-Err : goal.invariant_of-self-in-Err
invariant_of-self-in-Err c =
    let s = c.self.inside in (
      c.self.invariant.0,
      omega (
        arith,
        c.self.invariant.1,
        kept_length c.take_turn.new.threads.items,
        kept_length s.threads.items,
        no_more_threads c.args.thread c.in-Err.why (state_in c.take_turn.new.shared.heap c.take_turn.new.shared.locks c.take_turn.new.threads.items c.take_turn.new.shared.output.items) (state_in s.shared.heap s.shared.locks s.threads.items s.shared.output.items)
            (code_outcome (program_of s.program.now) s.code.now.code.items s.code.now.entry.items s.code.now.room.items (state_in s.shared.heap s.shared.locks s.threads.items s.shared.output.items) c.args.thread) (c.in-Err.ensures.taken c.self.inside.code.now.code.items c.self.inside.code.now.entry.items c.self.inside.code.now.room.items (c.requires.decided ∙ ap (λ m. thread_turn m c.args.thread) (sym c.self.view_is))),
      ),
      c.self.invariant.2,
      kept_on (program_of s.program.now) s.code.now.code.items s.code.now.entry.items s.code.now.room.items c.self.invariant.0 c.args.thread c.take_turn.result
          (record { heap = s.shared.heap; locks = s.shared.locks; threads = s.threads.items; output = s.shared.output.items })
          (record { heap = c.take_turn.new.shared.heap; locks = c.take_turn.new.shared.locks; threads = c.take_turn.new.threads.items; output = c.take_turn.new.shared.output.items })
          c.self.invariant.3 (c.take_turn.ensures.taken c.self.inside.code.now.code.items c.self.inside.code.now.entry.items c.self.inside.code.now.room.items (c.requires.decided ∙ ap (λ m. thread_turn m c.args.thread) (sym c.self.view_is))) (c.take_turn.ensures.roomy c.self.inside.code.now.code.items c.self.inside.code.now.entry.items c.self.inside.code.now.room.items (c.requires.decided ∙ ap (λ m. thread_turn m c.args.thread) (sym c.self.view_is)) c.self.invariant.0.rooms c.self.invariant.3.roomy),
      subst (λ x. IsCounted s.made x.heap x.locks) (sym (c.in-Err.ensures.taken c.self.inside.code.now.code.items c.self.inside.code.now.entry.items c.self.inside.code.now.room.items (c.requires.decided ∙ ap (λ m. thread_turn m c.args.thread) (sym c.self.view_is))).0) c.self.invariant.4,
      c.self.invariant.5,
    )

pub returns-in-Err-clause-lean : goal.returns-in-Err-clause-lean
returns-in-Err-clause-lean c typed q h lean is =
    let s = c.self.inside in
    c.in-Err.ensures.lean (subst (TurnFits (slice_get s.threads.items c.args.thread)) (sym (c.requires.decided ∙ ap (λ m. thread_turn m c.args.thread) (sym c.self.view_is))) (turn_fits (program_of s.program.now) s.code.now.code.items s.code.now.entry.items s.code.now.room.items c.self.invariant.0 (subst (λ m. IsTyped (program_run m)) (sym c.self.view_is) typed) c.args.thread
    (record { heap = s.shared.heap; locks = s.shared.locks; threads = s.threads.items; output = s.shared.output.items })
    c.self.invariant.3 q (subst (λ m. StandsFor m q) (sym c.self.view_is) h) lean (slice_get s.threads.items c.args.thread) refl)) is

pub take_turn-requires : goal.take_turn-requires
take_turn-requires c = record { counted = (c.self.inside.made, omega (arith, c.requires.made, ap (λ m. m.made) c.self.view_is), c.self.invariant.4); decided = (c.self.inside.code.now.code.items, c.self.inside.code.now.entry.items, c.self.inside.code.now.room.items, (c.requires.decided ∙ ap (λ m. thread_turn m c.args.thread) (sym c.self.view_is))) }

pub returns-in-Err-clause-kept : goal.returns-in-Err-clause-kept
returns-in-Err-clause-kept c =
    let kept = (c.in-Err.ensures.taken c.self.inside.code.now.code.items c.self.inside.code.now.entry.items c.self.inside.code.now.room.items (c.requires.decided ∙ ap (λ m. thread_turn m c.args.thread) (sym c.self.view_is))).0 in
    record {
      program = ap (λ m. m.program) c.self.view_is;
      code = ap (λ m. m.code) c.self.view_is;
      state = kept ∙ ap (λ m. code_state m.state) c.self.view_is;
      made = ap (λ m. m.made) c.self.view_is;
    }
