-- A text that no lines have.
use Rattle.std.proofs.Common.{Err, ap}
use Rattle.evidence_commands.proofs.Rows.{form_right}
use Rattle.evidence_commands.proofs.verifying.judged_text.Goals as goal

pub returns-in-Err : goal.returns-in-Err
returns-in-Err c = λ file is.
    form_right file c.args.bytes.now c.args.source.now c.in-Err.fault c.fault_line.result c.refuse.result is (λ place e. c.in-Err.ensures.fault place (ap Err e)) c.fault_line.ensures c.refuse.ensures
