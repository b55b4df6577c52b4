-- The machine that the schedule runs on is the program's.
use Rattle.std.proofs.Common.{ap, subst, ◌∙◌}
use Rattle.std.proofs.lemmas.Result.{err_from_is_err_and}
use Rattle.core_program.specs.Views.{program_of}
use Rattle.serialise.specs.NoRun.{IsNoRun}
use Rattle.serialise.proofs.Running.{stands_at_end}
use Rattle.serialise.proofs.run.run_from_start.Goals as goal

pub returns-in_err-steps-clause-refused : goal.returns-in_err-steps-clause-refused
returns-in_err-steps-clause-refused c =
    let p = err_from_is_err_and c.from_residual-in_err-steps.result c.from_residual-in_err-steps.ensures.1 in
    rw (p.1, p.2) (subst (λ m. IsNoRun (program_of m) c.args.schedule.now c.in_err-steps.field-0.0) c.in_ok-machine.ensures.program c.in_err-steps.ensures.refused)

pub returns-clause-stands : goal.returns-clause-stands
returns-clause-stands c q ran =
    let steps = c.in_ok-steps.ensures in
    stands_at_end (program_of c.args.program.now) c.args.schedule.now c.run_noted.new.machine c.in_ok-steps.steps.items steps.ran.0 (ap program_of (steps.program ∙ c.in_ok-machine.ensures.program)) steps.ran.1 q ran
