-- A row that is no line, or a line that is refused.
use Rattle.logs.specs.Stops.{stand_of}
use Rattle.trace_commands.proofs.Ways.{no_line_all, refused_all}
use Rattle.trace_commands.proofs.answering.stopped.Goals as goal

pub returns-in-NoLine : goal.returns-in-NoLine
returns-in-NoLine c = λ guard bytes w leads ends.
    no_line_all guard c.args.log.now bytes (stand_of c.args.walk.now) c.no_line.result c.line.result c.args.end w c.in-NoLine.is c.line.ensures c.no_line.ensures leads ends

pub returns-in-Refused : goal.returns-in-Refused
returns-in-Refused c = λ guard bytes w leads ends.
    refused_all guard c.args.log.now bytes (stand_of c.args.walk.now) c.refused.result c.in-Refused.why c.args.end w c.in-Refused.is c.refused.ensures leads ends
