-- The state that the schedule runs to, or the entry at which it stops.
use Rattle.state.specs.States.{initial}
use Rattle.machine.specs.Standing.{program_run}
use Rattle.witness.proofs.verdict.run_whole.Goals as goal

pub returns-in-Ok-clause-ran : goal.returns-in-Ok-clause-ran
returns-in-Ok-clause-ran c = c.in-Ok.ensures.ran (initial (program_run c.args.machine.now)) c.requires.start

pub returns-in-Err-clause-ran : goal.returns-in-Err-clause-ran
returns-in-Err-clause-ran c =
    let P = program_run c.args.machine.now in
    let stop = c.in-Err.ensures.stopped (initial P) c.requires.start in
    c.stop.ensures P c.args.schedule.now stop.0 stop.1
