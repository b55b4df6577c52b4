-- Each refusal is right.
use Rattle.std.proofs.Common.{subst}
use Rattle.machine.specs.Standing.{IsStopped}
use Rattle.serialise.specs.Rewritten.{IsRefused, EndsInside}
use Rattle.sources.proofs.Told.{right_of_more, right_refusal}
use Rattle.sources.specs.declared.refusal.Ending.TheVariants as ending
use Rattle.state.specs.States.{initial}
use Rattle.report.specs.Schedules.{inside_call_line}
use Rattle.schedule_commands.specs.Schedules.{NoRun, NoOrder, no_run, open_call}
use Rattle.schedule_commands.proofs.serialising.refuse_end.Goals as goal

pub returns-in-Stopped : goal.returns-in-Stopped
returns-in-Stopped c = λ P s is.
    let at : IsStopped P (initial P) s c.in-Stopped.stopped = subst (IsRefused P s) c.in-Stopped.is is in
    right_of_more (NoRun P s) (NoOrder P s) (λ ended line told. no_run told) c.refuse_stop.result (c.refuse_stop.ensures P s at.before at.stop)

pub returns-in-Open : goal.returns-in-Open
returns-in-Open c = λ P s is.
    let at : EndsInside P s c.in-Open.thread = subst (IsRefused P s) c.in-Open.is is in
    right_refusal (NoOrder P s) ending.Open (inside_call_line c.in-Open.thread) c.refuse_open.result (open_call at.end c.in-Open.thread at.ran at.least) c.refuse_open.ensures
