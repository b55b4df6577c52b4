-- The refusal of a stop is right.
use Rattle.std.proofs.Common.{subst}
use Rattle.machine.specs.Standing.{IsStopped}
use Rattle.serialise.specs.NoRun.{IsNoRun}
use Rattle.state.specs.States.{initial}
use Rattle.schedule_commands.proofs.opening.refuse_end.Goals as goal

pub returns-in-Stopped : goal.returns-in-Stopped
returns-in-Stopped c = λ P s is.
    let at : IsStopped P (initial P) s c.in-Stopped.stopped = subst (IsNoRun P s) c.in-Stopped.is is in
    c.refuse_stop.ensures P s at.before at.stop
