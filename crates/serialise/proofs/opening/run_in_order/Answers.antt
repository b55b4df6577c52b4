use Rattle.std.proofs.Common.{ap, ◌∙◌}
use Rattle.std.proofs.lemmas.Result.{err_from_is_err_and}
use Rattle.core_program.specs.Views.{program_of}
use Rattle.semantics.specs.Units.{units, schedule_of}
use Rattle.serialise.specs.Entries.{entries_of}
use Rattle.reduction.specs.Committing.{open_units}
use Rattle.serialise.proofs.OpeningResults.{finished}
use Rattle.serialise.proofs.opening.run_in_order.Goals as goal

pub returns-in_err-noted-clause-refused : goal.returns-in_err-noted-clause-refused
returns-in_err-noted-clause-refused c =
    let p = err_from_is_err_and c.from_residual.result c.from_residual.ensures.1 in
    rw (p.1, p.2) c.in_err-noted.ensures.refused

pub returns-clause-opened : goal.returns-clause-opened
returns-clause-opened c =
    let run = c.in_ok-noted.ensures in
    finished (program_of c.args.program.now) c.requires.typed c.requires.accepted c.args.schedule.now c.in_ok-noted.noted.machine c.in_ok-noted.noted.steps.items run.ran.0 (ap program_of run.program) run.ran.1
    c.in_ok-order.order.items (c.in_ok-order.ensures ∙ ap (λ steps. schedule_of (open_units (units (entries_of 0 steps)))) c.deref.ensures.value)
