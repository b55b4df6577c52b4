use Rattle.std.proofs.Common.{◌+◌, get_or, refl, subst, arith}
use Rattle.std.proofs.lemmas.Option.{slice_get-get_or}
use Rattle.std.proofs.lemmas.List.{take_all}
use Rattle.machine.specs.Standing.{program_run, HasRun}
use Rattle.machine.proofs.Schedules.{at_start, come_on, stops}
use Rattle.machine.proofs.machine.Machine.run.Goals as goal

pub loop-thread-init : goal.loop-thread-init
loop-thread-init c = (refl, at_start c.args.self.now c.args.schedule.now)

pub loop-thread-preserved : goal.loop-thread-preserved
loop-thread-preserved c =
    let s = c.args.schedule.now in
    let n = c.loop-thread.thread-index in
    let h = c.loop-thread.invariant in
    (omega (arith, h.0), come_on c.args.self.now c.loop-thread.self c.step.new.self s n (get_or s n 0) h.1 (slice_get-get_or s n 0 c.loop-thread-test.true) c.in-Ok.ensures.turn c.in-Ok.ensures.program c.in-Ok.ensures.code c.in-Ok.ensures.counted)

pub returns-in-Err-clause-stopped : goal.returns-in-Err-clause-stopped
returns-in-Err-clause-stopped c =
    let s = c.args.schedule.now in
    let n = c.loop-thread.thread-index in
    let h = c.loop-thread.invariant in
    stops c.args.self.now c.loop-thread.self c.step.new.self s n (get_or s n 0) h.1 (slice_get-get_or s n 0 c.loop-thread-test.true) c.in-Err.why c.in-Err.ensures.turn c.in-Err.ensures.kept (c.loop-thread.entry + 1) (omega (arith, h.0))

pub returns-clause-ran : goal.returns-clause-ran
returns-clause-ran c q stands =
    let s = c.args.schedule.now in
    let n = c.loop-thread.thread-index in
    subst (λ xs. HasRun c.loop-thread.self (program_run c.args.self.now) q xs) (take_all n s (omega (arith, c.loop-thread-test.false))) (c.loop-thread.invariant.1.ran q stands)
