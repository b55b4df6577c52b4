-- A text has one list of lines, and then no fault; else it has one fault.
use Rattle.std.proofs.Common.{◌≡◌, Some, ap, sym, ◌∙◌}
use Rattle.refutation.specs.declared.text_reader.BlameFault.TheVariants as faults
use Rattle.refutation.proofs.TextLaws.{one_blame, no_fault, has_fault, passed_no_fault, stopped_no_text, same_place}
use Rattle.refutation.proofs.text_reader.read_blame.Goals as goal

pub returns-in-Ok-clause-only_blame : goal.returns-in-Ok-clause-only_blame
returns-in-Ok-clause-only_blame c = λ lines is. one_blame c.args.bytes.now c.in-Ok.blame lines c.in-Ok.ensures is

pub returns-in-Ok-clause-only_fault : goal.returns-in-Ok-clause-only_fault
returns-in-Ok-clause-only_fault c = λ place e. no_fault c.args.bytes.now c.in-Ok.blame place c.in-Ok.ensures e

pub returns-in-Ok-blame-clause-only_fault : goal.returns-in-Ok-blame-clause-only_fault
returns-in-Ok-blame-clause-only_fault c = λ place e. absurd (passed_no_fault c.args.bytes.now tt c.in-Ok-blame.field-0.now place c.in-Ok-blame.ensures e)

pub returns-in-Err-clause-fault : goal.returns-in-Err-clause-fault
returns-in-Err-clause-fault c = λ place is.
    let here : c.saturating_sub.result ≡ place = cc in
    has_fault c.args.bytes.now c.in-Err.stop.kind c.in-Err.stop.rest.now c.in-Err.ensures ∙ ap Some (sym c.saturating_sub.ensures ∙ here)

pub returns-in-Err-clause-only_blame : goal.returns-in-Err-clause-only_blame
returns-in-Err-clause-only_blame c = λ lines is. absurd (stopped_no_text c.args.bytes.now c.in-Err.stop.kind c.in-Err.stop.rest.now lines c.in-Err.ensures is)

pub returns-in-Err-clause-only_fault : goal.returns-in-Err-clause-only_fault
returns-in-Err-clause-only_fault c = λ place e.
    ap faults.Form (c.saturating_sub.ensures ∙ same_place c.args.bytes.now _ place (has_fault c.args.bytes.now c.in-Err.stop.kind c.in-Err.stop.rest.now c.in-Err.ensures) e)
