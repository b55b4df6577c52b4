-- From how the reading ended.
use Rattle.std.proofs.Common.{inl, refl}
use Rattle.logs.specs.Stops.{stand_of}
use Rattle.logs.specs.Views.{guards_data}
use Rattle.trace_commands.proofs.Ways.{over_all, read_over, read_rose, stopped_all, unread_all}
use Rattle.trace_commands.specs.Outcomes.{longest_file}
use Rattle.trace_commands.proofs.answering.unended.Goals as goal

pub returns-in-Walk : goal.returns-in-Walk
returns-in-Walk c = λ asked told before now given ends.
    stopped_all c.args.log.now asked told before now c.stopped.result (guards_data c.args.guards.now) longest_file (stand_of c.args.walk.now) c.args.end c.in-Walk.end given c.in-Walk.is ends
    (c.stopped.ensures (guards_data c.args.guards.now))

pub returns-in-Fault : goal.returns-in-Fault
returns-in-Fault c = λ asked told before now given ends.
    let log = c.args.log.now in
    unread_all log asked told before now c.unread.result log (inl refl)
    (read_rose (guards_data c.args.guards.now) (told log) longest_file (before log) (now log) (stand_of c.args.walk.now) c.args.end c.in-Fault.is ends) c.unread.ensures

pub returns-in-TooLarge : goal.returns-in-TooLarge
returns-in-TooLarge c = λ asked told before now given ends.
    let log = c.args.log.now in
    over_all log asked told before now c.over.result log (inl refl)
    (read_over (guards_data c.args.guards.now) (told log) longest_file (before log) (now log) (stand_of c.args.walk.now) c.args.end c.in-TooLarge.is ends) c.over.ensures
