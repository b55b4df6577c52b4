-- The answer where the file is no well-formed source.
use Rattle.std.proofs.Common.{string_bytes, subst}
use Rattle.sources.specs.Checking.{NoSource}
use Rattle.sources.specs.Refusals.{IsRightEnd}
use Rattle.explain_commands.specs.Answers.{no_source}
use Rattle.explain_commands.proofs.Stages.{fault_told}
use Rattle.explain_commands.proofs.answering.explain.Goals as goal

pub returns-in_ok-fault_text-in-Err-Fault : goal.returns-in_ok-fault_text-in-Err-Fault
returns-in_ok-fault_text-in-Err-Fault c =
    no_source (fault_told c.args.file.now c.args.bytes.now c.in-Err-Fault.place c.in-Err-Fault.fault (string_bytes c.in_ok-fault_text-in-Err-Fault.field-0)
    (subst (IsRightEnd (NoSource c.args.bytes.now)) c.in-Err-Fault.field-0-is c.in-Err-Fault.ensures) c.in_ok-fault_text-in-Err-Fault.ensures)
