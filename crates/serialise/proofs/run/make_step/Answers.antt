use Rattle.std.proofs.Common.{refl, ap, inr}
use Rattle.std.proofs.lemmas.Result.{err_from_is_err_and}
use Rattle.core_program.specs.Views.{program_of}
use Rattle.semantics.specs.Step.{outcome}
use Rattle.machine.specs.Standing.{program_run}
use Rattle.serialise.specs.Tables.{value_or}
use Rattle.serialise.proofs.Running.{was_made, was_refused, only_memory, told_turn, left_same}
use Rattle.serialise.proofs.run.make_step.Goals as goal

pub returns-in_err-kind-clause-refused : goal.returns-in_err-kind-clause-refused
returns-in_err-kind-clause-refused c =
    let p = err_from_is_err_and c.from_residual.result c.from_residual.ensures.1 in
    rw (p.1, p.2) (λ q stands. was_refused c.args.thread q c.step_kind.new.self c.in_err-kind.field-0.0 (outcome (program_run c.args.machine.now) q c.args.thread) (c.in_err-kind.ensures.turn q stands))

pub returns-in-Ok-clause-made : goal.returns-in-Ok-clause-made
returns-in-Ok-clause-made c q stands are =
    was_made (program_run c.args.machine.now) c.args.thread q c.step_kind.new.self c.in_ok-kind.kind c.in-Ok.step (value_or 0 c.args.calls.now.items) (value_or 0 c.note_step.new.calls.items) c.frames_at-before.result
    (outcome (program_run c.args.machine.now) q c.args.thread) refl (ap program_of c.step_kind.ensures.program) are (c.frames_at-before.ensures q stands) (c.in_ok-kind.ensures.turn q stands) c.in-Ok.ensures.step c.in-Ok.ensures.calls

pub returns-in-Err-clause-refused : goal.returns-in-Err-clause-refused
returns-in-Err-clause-refused c q stands =
    only_memory c.args.thread q c.step_kind.new.self c.in_ok-kind.kind (outcome (program_run c.args.machine.now) q c.args.thread) (c.in_ok-kind.ensures.turn q stands)

pub returns-in_err-kind-clause-left : goal.returns-in_err-kind-clause-left
returns-in_err-kind-clause-left c =
    let p = err_from_is_err_and c.from_residual.result c.from_residual.ensures.1 in
    rw (p.1, p.2) (left_same c.args.thread c.args.machine.now c.step_kind.new.self c.in_err-kind.field-0.0 c.in_err-kind.ensures.kept)

pub returns-in-Err-clause-left : goal.returns-in-Err-clause-left
returns-in-Err-clause-left c =
    inr (λ q stands. told_turn c.args.thread q c.step_kind.new.self c.in_ok-kind.kind (outcome (program_run c.args.machine.now) q c.args.thread) (c.in_ok-kind.ensures.turn q stands))
