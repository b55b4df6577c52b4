use Rattle.logs.proofs.Judged.{judged_serial}
use Rattle.logs.proofs.LogsLines.{serial_log}
use Rattle.logs.proofs.laws.judged_logs_are_serial.Goals as goal

pub returns-clause-serial : goal.returns-clause-serial
returns-clause-serial c guard lines k is closed = serial_log guard lines k is closed

pub returns-clause-written : goal.returns-clause-written
returns-clause-written c guard lines k is closed = judged_serial guard lines k is closed
