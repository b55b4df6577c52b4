-- Each refusal is right.
use Rattle.std.proofs.Common.{◌≡◌, Some, subst}
use Rattle.machine.specs.Standing.{IsStopped}
use Rattle.report.specs.Schedules.{stopped_line, inside_call_line}
use Rattle.schedule_commands.specs.Schedules.{NoOrder, stopped, no_run, open_call}
use Rattle.semantics.specs.Run.{run, open_thread}
use Rattle.sources.proofs.Told.{right_refusal}
use Rattle.sources.specs.declared.refusal.Ending.TheVariants as ending
use Rattle.state.specs.States.{State, initial}
use Rattle.witness.specs.Verdicts.{IsNoVerdict}
use Rattle.witness_commands.proofs.answering.refuse_end.Goals as goal

pub refuse_stop-requires : goal.refuse_stop-requires
refuse_stop-requires c =
    let P = c.requires.0 in
    let s = c.requires.1 in
    let at : IsStopped P (initial P) s c.in-Stopped.stopped = subst (IsNoVerdict P s) c.in-Stopped.is c.requires.2 in
    at.refused

pub returns-in-Stopped : goal.returns-in-Stopped
returns-in-Stopped c = λ P s is.
    let at : IsStopped P (initial P) s c.in-Stopped.stopped = subst (IsNoVerdict P s) c.in-Stopped.is is in
    right_refusal (NoOrder P s) ending.Stopped (stopped_line c.in-Stopped.stopped) c.refuse_stop.result (no_run (stopped c.in-Stopped.stopped at)) c.refuse_stop.ensures

pub returns-in-Open : goal.returns-in-Open
returns-in-Open c = λ P s is.
    let at : (q : State) × (run P s ≡ Some q) × (open_thread P q ≡ Some c.in-Open.thread) = subst (IsNoVerdict P s) c.in-Open.is is in
    right_refusal (NoOrder P s) ending.Open (inside_call_line c.in-Open.thread) c.refuse_open.result (open_call at.0 c.in-Open.thread at.1 at.2) c.refuse_open.ensures
