-- The line of the entry that can't step.
use Rattle.std.proofs.Common.{sym, subst}
use Rattle.sources.specs.declared.refusal.Ending.TheVariants as ending
use Rattle.schedule_commands.specs.Schedules.{NoRun, stopped}
use Rattle.schedule_commands.proofs.schedules.refuse_stop.Goals as goal

pub returns-in-Ok : goal.returns-in-Ok
returns-in-Ok c = λ P s before is.
    subst (NoRun P s ending.Stopped) (sym c.in-Ok.ensures)
    (stopped c.args.stopped.now (record { before = before; stop = is; refused = c.is_want_of_memory.ensures.otherwise c.if-is_want_of_memory.false }))
