-- What was found, from how the reading ended.
use Rattle.std.proofs.Common.{◌≡◌, ◌≢◌, ◌∙◌, Err, ap, string_bytes, subst, sym}
use Rattle.edge.specs.declared.transfer.ReadEnd.{ReadEnd}
use Rattle.edge.specs.declared.transfer.ReadEnd.TheVariants.{Fault, TooLarge}
use Rattle.explain_commands.specs.Answers.{ExplainAnswer}
use Rattle.explain_commands.specs.Outcomes.{IsExplainOutcome, unread, over, read}
use Rattle.explain_commands.proofs.program.perform.Goals as goal

no_fault : (e : ReadEnd) → e ≡ TooLarge → e ≢ Fault
no_fault e is other = let both : TooLarge ≡ Fault = sym is ∙ other in cc

pub returns-in_ok-said-in-Ok-clause-outcome : goal.returns-in_ok-said-in-Ok-clause-outcome
returns-in_ok-said-in-Ok-clause-outcome g c =
    let said = c.in_ok-said-in-Ok.said in
    subst (λ status. IsExplainOutcome c.args.order c.args.name.now (g.F.Folder.told c.args.folder.now) (g.F.Folder.faults c.args.folder.now) (g.F.Folder.faults c.read_file.new.folder) status (string_bytes said.text)) (sym c.code.ensures)
    (read c.in-Ok.bytes.items said.ending (string_bytes said.text) (record { its = c.in-Ok.ensures.whole; within = c.in-Ok.ensures.within; quiet = c.in-Ok.ensures.calm })
    (subst (λ bytes. ExplainAnswer c.args.order c.args.name.now bytes said.ending (string_bytes said.text)) c.as_slice.ensures.value c.in_ok-said-in-Ok.ensures))

pub returns-in_ok-cannot_read_line-in-Err-Fault-clause-outcome : goal.returns-in_ok-cannot_read_line-in-Err-Fault-clause-outcome
returns-in_ok-cannot_read_line-in-Err-Fault-clause-outcome g c =
    subst (IsExplainOutcome c.args.order c.args.name.now (g.F.Folder.told c.args.folder.now) (g.F.Folder.faults c.args.folder.now) (g.F.Folder.faults c.read_file.new.folder) 6)
    (sym c.in_ok-cannot_read_line-in-Err-Fault.ensures)
    (unread (record { rose = c.in-Err-Fault.ensures.fault (ap Err c.in-Err-Fault.field-0-is); others = c.in-Err-Fault.ensures.others }))

pub returns-in_ok-too_large_line-in-Err-TooLarge-clause-outcome : goal.returns-in_ok-too_large_line-in-Err-TooLarge-clause-outcome
returns-in_ok-too_large_line-in-Err-TooLarge-clause-outcome g c =
    subst (IsExplainOutcome c.args.order c.args.name.now (g.F.Folder.told c.args.folder.now) (g.F.Folder.faults c.args.folder.now) (g.F.Folder.faults c.read_file.new.folder) 10)
    (sym c.in_ok-too_large_line-in-Err-TooLarge.ensures)
    (over (record { over = c.in-Err-TooLarge.ensures.too_large (ap Err c.in-Err-TooLarge.field-0-is); quiet = c.in-Err-TooLarge.ensures.calm_end (no_fault c.in-Err-TooLarge.field-0 c.in-Err-TooLarge.field-0-is) }))
