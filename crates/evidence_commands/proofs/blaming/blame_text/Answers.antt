-- The certificate of a source, or that there is none.
use Rattle.std.proofs.Common.{subst}
use Rattle.core_program.specs.Views.{program_of}
use Rattle.rules.specs.Near.{rel_of}
use Rattle.refutation.specs.Ends.{IsBlameEnd}
use Rattle.evidence_commands.proofs.Rows.{blamed_text, nothing_right}
use Rattle.evidence_commands.proofs.blaming.blame_text.Goals as goal

pub returns-in_ok-text_of-in-Ok : goal.returns-in_ok-text_of-in-Ok
returns-in_ok-text_of-in-Ok c = λ file is.
    blamed_text file c.in_ok-text_of-in-Ok.field-0.items c.args.source.now c.in-Ok.blame is c.in-Ok.ensures.written c.in-Ok.ensures.certificate c.in_ok-text_of-in-Ok.ensures

pub returns-in-Err-Accepted : goal.returns-in-Err-Accepted
returns-in-Err-Accepted c = λ file is.
    nothing_right file c.args.source.now c.nothing_to_blame.result is
    (subst (IsBlameEnd (program_of c.args.source.now.program) (rel_of c.args.source.now.sets)) c.in-Err-Accepted.field-0-is c.in-Err-Accepted.ensures.certificate) c.nothing_to_blame.ensures
