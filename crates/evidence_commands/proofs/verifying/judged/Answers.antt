-- A certificate that was checked, and one with which something is wrong.
use Rattle.evidence_commands.proofs.Rows.{verified_text, wrong_right}
use Rattle.evidence_commands.proofs.verifying.judged.Goals as goal

pub returns-in_ok-verified-in-Ok : goal.returns-in_ok-verified-in-Ok
returns-in_ok-verified-in-Ok c = λ file bytes is text.
    verified_text file bytes c.in_ok-verified-in-Ok.field-0.items c.args.source.now c.args.blame.now is text c.in-Ok.ensures c.in_ok-verified-in-Ok.ensures

pub returns-in-Err : goal.returns-in-Err
returns-in-Err c = λ file bytes is text.
    wrong_right file bytes c.args.source.now c.args.blame.now c.in-Err.wrong c.wrong_text.result c.refuse.result is text c.in-Err.ensures c.wrong_text.ensures c.refuse.ensures
