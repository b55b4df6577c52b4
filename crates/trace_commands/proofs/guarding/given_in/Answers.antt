-- The text gives guards, or a line of it is no line of guards.
use Rattle.std.proofs.Common.{Some, refl, subst}
use Rattle.log_guess.specs.Given.{guards_of}
use Rattle.log_guess.specs.Places.{IsTextEnd}
use Rattle.trace_commands.proofs.Found.{found_no_guards}
use Rattle.trace_commands.proofs.guarding.given_in.Goals as goal

pub returns-in_ok-text-in-Err-NoLine : goal.returns-in_ok-text-in-Err-NoLine
returns-in_ok-text-in-Err-NoLine c = λ log told before now calm text.
    found_no_guards log (Some c.args.name.now) told before now 1 c.in_ok-text-in-Err-NoLine.text.items c.args.name.now c.in-Err-NoLine.line refl (c.args.text.now, text, subst (IsTextEnd (guards_of c.args.text.now)) c.in-Err-NoLine.field-0-is c.in-Err-NoLine.ensures) refl c.in_ok-text-in-Err-NoLine.ensures

pub returns-in-Ok : goal.returns-in-Ok
returns-in-Ok c = λ log told before now calm text. (calm, tt, (c.args.text.now, text, c.in-Ok.ensures))
