use Rattle.std.proofs.Common.{refl, sym, ap, subst, ◌∙◌, length, get_or, ◌+◌, [], arith}
use Rattle.std.specs.Prelude.{take}
use Rattle.std.proofs.lemmas.List.{take_all}
use Rattle.core_program.specs.Views.{program_of}
use Rattle.state.specs.States.{State}
use Rattle.semantics.specs.Step.{outcome}
use Rattle.machine.specs.Reasons.{IsReason}
use Rattle.machine.specs.Standing.{program_run, StandsFor}
use Rattle.serialise.specs.Made.{HaveRun}
use Rattle.serialise.specs.NoRun.{IsNoRun}
use Rattle.serialise.specs.Tables.{value_or}
use Rattle.serialise.proofs.Running.{starts, length_more, run_more, run_stops}
use Rattle.serialise.proofs.run.run_noted.Goals as goal

pub loop-place-init : goal.loop-place-init
loop-place-init c =
    let none = c.in_ok-steps.ensures.items in
    let calls = c.new-calls.ensures.items in
    (refl, c.requires.start, ap length none, subst (λ xs. HaveRun c.args.machine.now [] c.in_ok-steps.steps.items (value_or 0 xs)) (sym calls) (subst (λ xs. HaveRun c.args.machine.now [] xs (value_or 0 [])) (sym none) (starts c.args.machine.now c.requires.stands)))

pub returns-in-Err-clause-refused : goal.returns-in-Err-clause-refused
returns-in-Err-clause-refused c =
    let h = c.loop-place.invariant in
    subst (IsNoRun (program_run c.args.machine.now) c.args.schedule.now) (sym c.refusal.ensures) (run_stops (program_run c.args.machine.now) c.loop-place.machine c.make_step.new.machine c.args.schedule.now c.loop-place.place
    c.loop-place-test.true (ap program_of h.0) (ap program_of (c.in-Err.ensures.program ∙ h.0)) c.loop-place.steps.items h.2 (value_or 0 c.loop-place.calls.items) h.3 c.in-Err.why
    (subst (λ p. (q : State) → StandsFor c.loop-place.machine q → IsReason c.in-Err.why (outcome p q (get_or c.args.schedule.now c.loop-place.place 0))) (ap program_of h.0) c.in-Err.ensures.refused))

pub loop-place-preserved : goal.loop-place-preserved
loop-place-preserved c =
    let h = c.loop-place.invariant in
    let count = c.in-Ok.ensures.counted in
    let made = h.1 in
    let long = h.2 in
    let items = c.in_ok-push-in-Ok.ensures.items in (
      c.in-Ok.ensures.program ∙ h.0,
      omega (arith, count, made),
      ap length items ∙ length_more c.loop-place.steps.items c.in-Ok.step ∙ ap (λ n. n + 1) long,
      subst (λ xs. HaveRun c.make_step.new.machine (take (c.loop-place.place + 1) c.args.schedule.now) xs (value_or 0 c.make_step.new.calls.items)) (sym items)
          (run_more (program_run c.args.machine.now) c.loop-place.machine c.make_step.new.machine c.args.schedule.now c.loop-place.place
          c.loop-place-test.true (ap program_of h.0) (ap program_of (c.in-Ok.ensures.program ∙ h.0)) c.loop-place.steps.items long (value_or 0 c.loop-place.calls.items) h.3 c.in-Ok.step (value_or 0 c.make_step.new.calls.items)
          c.in-Ok.ensures.made),
    )

pub returns-clause-ran : goal.returns-clause-ran
returns-clause-ran c =
    let h = c.loop-place.invariant in
    let over = c.loop-place-test.false in
    (value_or 0 c.loop-place.calls.items, subst (λ s. HaveRun c.loop-place.machine s c.loop-place.steps.items (value_or 0 c.loop-place.calls.items)) (take_all c.loop-place.place c.args.schedule.now (omega (arith, over))) h.3)
