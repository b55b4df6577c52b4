use Rattle.logs.proofs.LogsLines.{serial_log}
use Rattle.logs.proofs.Serials.{serial_text}
use Rattle.logs.proofs.Spelled.{spelled}
use Rattle.logs.proofs.laws_of_walks.serial_texts_have_serial_logs.Goals as goal

pub returns : goal.returns
returns c = λ guard. serial_text spelled guard (serial_log guard)
