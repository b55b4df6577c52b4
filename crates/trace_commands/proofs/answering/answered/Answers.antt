-- From how the reading ended.
use Rattle.logs.specs.Stops.{stand_of}
use Rattle.logs.specs.Views.{guards_data}
use Rattle.trace_commands.proofs.Ways.{counted_all}
use Rattle.trace_commands.specs.Outcomes.{longest_file}
use Rattle.trace_commands.proofs.answering.answered.Goals as goal

pub returns-in-Ok : goal.returns-in-Ok
returns-in-Ok g c = λ asked given.
    counted_all c.args.log.now asked (g.F.Folder.told c.args.folder.now) (g.F.Folder.faults c.args.folder.now) (g.F.Folder.faults c.walk_file.new.folder) c.counted.result (guards_data c.args.guards.now)
    longest_file c.in-Ok.many (stand_of c.walk_file.new.walk) c.args.before given c.in-Ok.ensures.walked c.requires.guessed (c.counted.ensures (guards_data c.args.guards.now))

pub returns-in-Err : goal.returns-in-Err
returns-in-Err g c = λ asked given.
    c.unended.ensures asked (g.F.Folder.told c.args.folder.now) (g.F.Folder.faults c.args.folder.now) (g.F.Folder.faults c.walk_file.new.folder) given c.in-Err.ensures.walked
