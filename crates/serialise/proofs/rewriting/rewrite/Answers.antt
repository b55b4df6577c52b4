use Rattle.std.proofs.Common.{ap, ◌∙◌}
use Rattle.std.proofs.lemmas.Result.{err_from_is_err_and}
use Rattle.core_program.specs.Views.{program_of}
use Rattle.semantics.specs.Units.{units, in_order, schedule_of}
use Rattle.serialise.specs.Entries.{entries_of}
use Rattle.serialise.proofs.RewritingResults.{finished, left_open}
use Rattle.serialise.proofs.rewriting.rewrite.Goals as goal

pub returns-in_err-noted-clause-refused : goal.returns-in_err-noted-clause-refused
returns-in_err-noted-clause-refused c =
    let p = err_from_is_err_and c.from_residual.result c.from_residual.ensures.1 in
    rw p.1 (p.2 (program_of c.args.program.now) c.args.schedule.now c.in_err-noted.ensures.refused)

pub returns-in-Some-clause-refused : goal.returns-in-Some-clause-refused
returns-in-Some-clause-refused c =
    let run = c.in_ok-noted.ensures in
    left_open (program_of c.args.program.now) c.args.schedule.now c.in_ok-noted.noted.machine c.in_ok-noted.noted.steps.items run.ran.0 (ap program_of run.program) run.ran.1
    c.open_thread.result c.open_thread.ensures c.in-Some.thread c.in-Some.is

pub returns-clause-rewritten : goal.returns-clause-rewritten
returns-clause-rewritten c =
    let run = c.in_ok-noted.ensures in
    finished (program_of c.args.program.now) c.requires.typed c.requires.accepted c.args.schedule.now c.in_ok-noted.noted.machine c.in_ok-noted.noted.steps.items run.ran.0 (ap program_of run.program) run.ran.1
    c.open_thread.result c.open_thread.ensures c.in-None.is c.in_ok-order-in-None.order.items (c.in_ok-order-in-None.ensures ∙ ap (λ steps. schedule_of (in_order (units (entries_of 0 steps)))) c.deref.ensures.value)
